-- The paper's tables of numbers: report kinds, reasons, refusals, categories and sizes. Each lists every case once, in the paper's order,
-- beside the number that the paper gives it.
use Prim.Native.Nat.{ℕ, ◌-◌, ◌*◌}
use mathlib.Core.Path.{◌≡◌, refl}
use mathlib.Core.List.{List, [], ◌∷◌, map}
use lib.ListN.{get_or}
use Rattle.terms.specs.declared.Band.{Band}
use Rattle.terms.specs.declared.Category.{Category}
use Rattle.terms.specs.declared.Category.TheVariants.{Broad, Narrow, Sensitive, Energy, Metals, Precious, Gems, Other}
use Rattle.terms.specs.declared.Closing.{Closing}
use Rattle.terms.specs.declared.Deal.{Deal}
use Rattle.terms.specs.declared.Ended.{Ended}
use Rattle.terms.specs.declared.Order.{Order}
use Rattle.terms.specs.declared.Refusal.{Refusal}
use Rattle.terms.specs.declared.Refusal.TheVariants.{SmallRoom, Unsound, Closed, NumberRange, TimeBack, OutOfHours, OffTick, OutsideBand, NotResting, SideFull, DayFull, SettingsRange, SettingsOffTick, LineUnfinished, LineWrong, SmallLineRoom, NumberLong, LineRefused}
use Rattle.terms.specs.declared.Said.TheVariants.{Accept, Trade, Convert, Cancel, Slab, Ref, Close}
use Rattle.terms.specs.declared.Why.{Why}
use Rattle.terms.specs.declared.Why.TheVariants.{Asked, Immediate, OutOfRange, OutsideBand as Outside, DayEnd}
use Rattle.terms.specs.Sizes.{slots, line_room, numbers_most, trades_before, trades_most, price_most, lots_most, time_most, base_most, tick_most, length_least, days_most, written_most}
use Rattle.terms.specs.Categories.{row_of}
use Rattle.terms.specs.Refusals.{number_of}
use Rattle.terms.specs.Reports.{kind_of, why_of}

-- ---- "Kinds: 1 accept, 2 trade, 3 convert, 4 cancel, 5 slab, 6 ref, 7 close", whatever the report tells

pub kinds : (number : ℕ) (deal : Deal) (order : Order) (ended : Ended) (band : Band) (price : ℕ) (closing : Closing) →
    map kind_of (Accept number ∷ Trade deal ∷ Convert order ∷ Cancel ended ∷ Slab band ∷ Ref price ∷ Close closing ∷ [])
    ≡ 1 ∷ 2 ∷ 3 ∷ 4 ∷ 5 ∷ 6 ∷ 7 ∷ []
kinds number deal order ended band price closing = refl

-- ---- reasons: why 1 where it was asked for, "ioc is cancelled, why 2", "out of range .. why 3", "outside the band .. why 4", the close "why 5"

abbrev pub all_whys : List Why
all_whys = Asked ∷ Immediate ∷ OutOfRange ∷ Outside ∷ DayEnd ∷ []

pub whys : map why_of all_whys ≡ 1 ∷ 2 ∷ 3 ∷ 4 ∷ 5 ∷ []
whys = refl

-- there is no other reason, and each stands in the list at its number
pub why_listed : (w : Why) → get_or all_whys (why_of w - 1) Asked ≡ w
why_listed Asked = refl
why_listed Immediate = refl
why_listed OutOfRange = refl
why_listed Outside = refl
why_listed DayEnd = refl

-- ---- "Refusal numbers, first that applies", and those of document 02

abbrev pub all_refusals : List Refusal
all_refusals =
    SmallRoom
    ∷ Unsound
    ∷ Closed
    ∷ NumberRange
    ∷ TimeBack
    ∷ OutOfHours
    ∷ OffTick
    ∷ OutsideBand
    ∷ NotResting
    ∷ SideFull
    ∷ DayFull
    ∷ SettingsRange
    ∷ SettingsOffTick
    ∷ LineUnfinished
    ∷ LineWrong
    ∷ SmallLineRoom
    ∷ NumberLong
    ∷ LineRefused
    ∷ []

pub refusals : map number_of all_refusals ≡ 1 ∷ 2 ∷ 3 ∷ 4 ∷ 5 ∷ 6 ∷ 7 ∷ 8 ∷ 9 ∷ 10 ∷ 11 ∷ 12 ∷ 13 ∷ 14 ∷ 15 ∷ 16 ∷ 17 ∷ 22 ∷ []
refusals = refl

-- there is no other refusal: each stands somewhere in the list
pub refusal-listed : (r : Refusal) → (place : ℕ) × (get_or all_refusals place SmallRoom ≡ r)
refusal-listed SmallRoom = (0, refl)
refusal-listed Unsound = (1, refl)
refusal-listed Closed = (2, refl)
refusal-listed NumberRange = (3, refl)
refusal-listed TimeBack = (4, refl)
refusal-listed OutOfHours = (5, refl)
refusal-listed OffTick = (6, refl)
refusal-listed OutsideBand = (7, refl)
refusal-listed NotResting = (8, refl)
refusal-listed SideFull = (9, refl)
refusal-listed DayFull = (10, refl)
refusal-listed SettingsRange = (11, refl)
refusal-listed SettingsOffTick = (12, refl)
refusal-listed LineUnfinished = (13, refl)
refusal-listed LineWrong = (14, refl)
refusal-listed SmallLineRoom = (15, refl)
refusal-listed NumberLong = (16, refl)
refusal-listed LineRefused = (17, refl)

-- ---- the categories, in the order of tables A and B (001)

abbrev pub all_categories : List Category
all_categories = Broad ∷ Narrow ∷ Sensitive ∷ Energy ∷ Metals ∷ Precious ∷ Gems ∷ Other ∷ []

pub categories : map row_of all_categories ≡ 0 ∷ 1 ∷ 2 ∷ 3 ∷ 4 ∷ 5 ∷ 6 ∷ 7 ∷ []
categories = refl

pub category_listed : (c : Category) → get_or all_categories (row_of c) Broad ≡ c
category_listed Broad = refl
category_listed Narrow = refl
category_listed Sensitive = refl
category_listed Energy = refl
category_listed Metals = refl
category_listed Precious = refl
category_listed Gems = refl
category_listed Other = refl

-- ---- sizes

-- "a lent table of 768 64-bit numbers, 256 orders of number, price and lots left"; "Report room is 3,120 numbers, 520 reports of six";
-- "line room under 128 bytes"
pub rooms : slots ∷ line_room ∷ [] ≡ 256 ∷ 128 ∷ []
rooms = refl

-- "Prices are whole paise, 1 to 100,000,000. Quantities are lots, 1 to 10,000. .. Order numbers are 1 to 60,000"; "over 59,744 trades made";
-- "trades at most 60,000"; "a number above 999,999,999 to be written"
pub greatest :
    price_most ∷ lots_most ∷ numbers_most ∷ trades_before ∷ trades_most ∷ written_most ∷ []
    ≡ 100000000 ∷ 10000 ∷ 60000 ∷ 59744 ∷ 60000 ∷ 999999999 ∷ []
greatest = refl

-- a day has 24 hours of 60 minutes of 60,000 ms, and a session lasts at least one hour; "base 1 to 50,000,000; .. tick 1 to 10,000; .. days
-- to maturity 0 to 366"
pub settings-greatest :
    time_most ∷ length_least ∷ base_most ∷ tick_most ∷ days_most ∷ []
    ≡ 24 * (60 * 60000) ∷ 60 * 60000 ∷ 50000000 ∷ 10000 ∷ 366 ∷ []
settings-greatest = refl
