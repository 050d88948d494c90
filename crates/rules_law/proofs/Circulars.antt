-- The circulars' own numbers, computed from the definitions: the slabs and the cooling-off (001), the execution range (002), the mark (004),
-- the close (000); and the growth factors that document 01 prints.
use Prim.Native.Nat.{ℕ, zero, suc, ◌+◌, ◌-◌, ◌*◌}
use native.Mathlib.Omega.{arith}
use mathlib.Core.Path.{◌≡◌, refl}
use mathlib.Core.Bool.{Bool, true, false}
use mathlib.Core.List.{List, [], ◌∷◌, map}
use borrow.Author.Tests.{leb-true, ltb-true, le-leb, lt-ltb}
use lib.Dec.{leb, ltb}
use Rattle.terms.specs.declared.Category.{Category}
use Rattle.terms.specs.declared.Category.TheVariants.{Broad, Narrow, Sensitive, Energy, Metals, Precious, Gems, Other}
use Rattle.terms.specs.declared.Side.TheVariants.{Buy, Sell}
use Rattle.terms.proofs.Logic.{same}
use Rattle.terms.proofs.Papers.{all_categories}
use Rattle.rules_law.specs.declared.Reckoning.{Reckoning}
use Rattle.rules_law.specs.declared.Tape.{Tape}
use Rattle.rules_law.specs.Slabs.{slab_of, percent_of, cooling_length}
use Rattle.rules_law.specs.Growth.{factorial, term, terms, growth, theoretical}
use Rattle.rules_law.specs.Reference.{no_trades, minute_after, boundary, crossed, theoretical_or, opening_reference, range_of, in_range}
use Rattle.rules_law.specs.Mark.{beyond_mark}
use Rattle.rules_law.specs.Close.{tallied, tally_all, nearest, in_half_hour, remembered, blank_tape, tape_after, last_or, close_price, next_base, closing_of}

abbrev minutes : ℕ → ℕ
minutes n = n * 60 * 1000

abbrev hours : ℕ → ℕ
hours n = n * minutes 60

-- ---- 001, tables A and B: the sixteen percents, and the column "Aggregate DPL"

pub record Percents : Type 0 where
  pub category : Category
  pub initial : ℕ
  pub enhanced : ℕ
  pub aggregate : ℕ

abbrev pub percents : Category → ℕ → ℕ → ℕ → Percents
percents category initial enhanced aggregate = record { category = category; initial = initial; enhanced = enhanced; aggregate = aggregate }

abbrev pub printed : List Percents
printed =
    percents Broad 4 2 6
    ∷ percents Narrow 4 2 6
    ∷ percents Sensitive 3 1 4
    ∷ percents Energy 6 3 9
    ∷ percents Metals 6 3 9
    ∷ percents Precious 6 3 9
    ∷ percents Gems 3 3 6
    ∷ percents Other 6 3 9
    ∷ []

-- the row that our definitions give: the aggregate is the percent of the widened band
abbrev pub defined : Category → Percents
defined c = percents c (slab_of c).initial (slab_of c).enhanced (percent_of (slab_of c) 1)

pub tables : map defined all_categories ≡ printed
unfolding percent_of
tables = refl

-- "It starts at the initial percent."
pub starts_initial : (c : Category) → percent_of (slab_of c) 0 ≡ (slab_of c).initial
unfolding percent_of
starts_initial c = refl

-- "after a cooling-off period of 15 minutes"
pub fifteen_minutes_lem : cooling_length ≡ minutes 15
fifteen_minutes_lem = refl

-- ---- 002: the reference, revised "at 1 minute intervals", and the range

-- "An event first applies every boundary up to and including its time."
pub boundaries-crossed : map (crossed 0) ((minutes 1 - 1) ∷ minutes 1 ∷ (minutes 2 - 1) ∷ minutes 2 ∷ []) ≡ 0 ∷ 1 ∷ 1 ∷ 2 ∷ []
boundaries-crossed = refl

-- "simple average of trade prices", rounded down: 302 over three trades is 100 and two thirds
abbrev three_trades : Reckoning
three_trades = record { reference = 90; minute = minute_after (minute_after (minute_after no_trades 100) 101) 101 }

pub simple_average : (boundary 0 0 three_trades).reference ≡ 100
unfolding minute_after
simple_average = refl

-- "theoretical price based on the underlying price (using rate of interest as 10%) or base price of the contract in case underlying price is
-- not available": 10000 in 73 days and in a year
pub opening_references :
    opening_reference 9000 10000 73 ∷ opening_reference 9000 10000 365 ∷ opening_reference 9000 0 73 ∷ []
    ≡ 10202 ∷ 11051 ∷ 9000 ∷ []
unfolding theoretical_or theoretical growth terms term factorial
opening_references = refl

-- "Entry 0 is 1,000,000,000, entry 73 is 1,020,201,340, entry 365 is 1,105,170,918."
pub entries : map growth (0 ∷ 73 ∷ 365 ∷ []) ≡ 1000000000 ∷ 1020201340 ∷ 1105170918 ∷ []
unfolding growth terms term factorial
entries = refl

-- the one entry that would be another without the term for k = 7; that for k = 8 changes none
pub seventh_term : growth 268 ≡ 1076187451
unfolding growth terms term factorial
seventh_term = refl

-- "50% of initial daily price limit of the contract (Eg: If DPL is 4% then the Execution range shall be 2%)"
pub two_percent_of_four : map (in_range (range_of (slab_of Broad) 10000)) (9799 ∷ 9800 ∷ 10200 ∷ 10201 ∷ []) ≡ false ∷ true ∷ true ∷ false ∷ []
unfolding in_range
two_percent_of_four = refl

-- the range goes by the initial limit, in each category: "Enhancement doesn't widen it."
pub range_by_initial : (c : Category) (reference : ℕ) → (range_of (slab_of c) reference).percent ≡ percent_of (slab_of c) 0
unfolding percent_of
range_by_initial c reference = refl

-- ---- 004: "The mark-up / mark-down percentage for MPP would be set at 2%"

pub marked_up : (m x : ℕ) → beyond_mark Buy m x ≡ ltb (2 * m) (100 * (x - m))
marked_up m x =
    same (beyond_mark Buy m x) (ltb (2 * m) (100 * (x - m)))
    (λ e. lt-ltb (2 * m) (100 * (x - m)) (omega (arith, ltb-true (102 * m) (100 * x) e)))
    (λ e. lt-ltb (102 * m) (100 * x) (omega (arith, ltb-true (2 * m) (100 * (x - m)) e)))

pub marked_down : (m x : ℕ) → beyond_mark Sell m x ≡ ltb (2 * m) (100 * (m - x))
marked_down m x =
    same (beyond_mark Sell m x) (ltb (2 * m) (100 * (m - x)))
    (λ e. lt-ltb (2 * m) (100 * (m - x)) (omega (arith, ltb-true (100 * x) (98 * m) e)))
    (λ e. lt-ltb (100 * x) (98 * m) (omega (arith, ltb-true (2 * m) (100 * (m - x)) e)))

-- ---- 000, paragraph 1: "all trades done during last half an hour of the trading day"

-- a trade is one of these exactly where half an hour after it the day is at its length or past it
pub last_half_hour : (length time : ℕ) → in_half_hour length time ≡ leb length (time + minutes 30)
last_half_hour length time =
    same (in_half_hour length time) (leb length (time + minutes 30))
    (λ e. le-leb length (time + minutes 30) (omega (arith, leb-true (length - 1800000) time e)))
    (λ e. le-leb (length - 1800000) time (omega (arith, leb-true length (time + minutes 30) e)))

-- just before the half hour begins and as it begins, in a day of two hours, of eight and a half, and of twenty-four
pub half_hours :
    in_half_hour (hours 2) (minutes 90 - 1) ∷ in_half_hour (hours 2) (minutes 90)
    ∷ in_half_hour (minutes 510) (hours 8 - 1) ∷ in_half_hour (minutes 510) (hours 8)
    ∷ in_half_hour (hours 24) (minutes 1410 - 1) ∷ in_half_hour (hours 24) (minutes 1410)
    ∷ []
    ≡ false ∷ true ∷ false ∷ true ∷ false ∷ true ∷ []
half_hours = refl

-- ---- 000, paragraphs 1 and 2: the four cases of the close price and the base price, on trades of different lots

-- the tape after n more trades of these lots at this price; `late` says whether they are in the half hour
abbrev more : ℕ → Bool → ℕ → ℕ → Tape → Tape
more zero late price lots t = t
more (suc n) late price lots t = more n late price lots (tape_after t late price lots)

-- the close and the next base of a day with tick 1, previous close 150 and settlement 160
abbrev closes : Tape → List ℕ
closes t = (closing_of 1 150 t 160).price ∷ (closing_of 1 150 t 160).base ∷ []

-- a. "Volume Weighted Average Price (VWAP) of all trades done during last half an hour of the trading day, subject to minimum of ten trades":
-- 90 lots at 200 and ten at 100 come to 190 a lot, whatever was traded before; "such close price shall be set as the base price"
pub close_half_hour : closes (more 10 true 100 1 (more 1 true 200 90 (more 3 false 500 7 blank_tape))) ≡ 190 ∷ 190 ∷ []
unfolding tallied tally_all nearest remembered tape_after last_or close_price next_base
close_half_hour = refl

-- b. nine in the half hour: "the VWAP of the last ten trades executed during the day", 91 lots at 200 and nine at 100
pub close_last_ten : closes (more 9 true 100 1 (more 1 false 200 91 (more 3 false 500 7 blank_tape))) ≡ 191 ∷ 191 ∷ []
unfolding tallied tally_all nearest remembered tape_after last_or close_price next_base
close_last_ten = refl

-- c. nine in all: "Last Traded Price (LTP) of the contract for the day"; "daily settlement price of the contract shall be set as the base
-- price"
pub close_last_trade : closes (more 1 true 120 1 (more 8 true 200 91 blank_tape)) ≡ 120 ∷ 160 ∷ []
unfolding tallied tally_all nearest remembered tape_after last_or close_price next_base
close_last_trade = refl

-- d. "If no trade is executed during the day on the contract, previous close price shall be the close price for the day"
pub close_previous : closes blank_tape ≡ 150 ∷ 160 ∷ []
unfolding tallied tally_all nearest remembered tape_after last_or close_price next_base
close_previous = refl
