-- Document 01, "A session is sound when": one definition for each part of that paragraph.
use Rattle.std.specs.Prelude.{ℕ, ◌+◌, ◌*◌, Bool, true, ◌||◌, List, [], ◌∷◌, leb, ltb, eqb, length, take}
use Rattle.terms.specs.Truth.{◌⊓◌, between}
use Rattle.terms.specs.Sizes.{price_most, lots_most, Sizes, sizes}
use Rattle.terms.specs.Numbers.{is_price, is_lots, is_time, on_tick}
use Rattle.terms.specs.Settings.{settings_valid}
use Rattle.rules_law.specs.declared.Minute.{Minute}
use Rattle.rules_law.specs.declared.Tally.{Tally}
use Rattle.rules_law.specs.declared.Tape.{Tape}
use Rattle.rules_law.specs.Slabs.{cooling_length}
use Rattle.rules_law.specs.Reference.{reference_most}
use Rattle.rules_law.specs.Close.{kept}
use Rattle.tables.specs.Tables.{decode}
use Rattle.book_sound_law.specs.Sound.{book_sound}
use Rattle.state_law.specs.declared.Session.{Session}
use Rattle.state_law.specs.Now.{band_now}
use Rattle.state_law.specs.Day.{Day}

-- "its time is at most 86,400,000, and below the length until closed"
unfoldable pub time_sound : Session → Bool
time_sound s = is_time s.clock.time ⊓ (s.clock.closed || ltb s.clock.time s.settings.length)

-- "live counts are at most 256"
unfoldable pub counts_sound : Sizes → Session → Bool
counts_sound z s = leb s.live.buys z.side ⊓ leb s.live.sells z.side

-- "the slab is initial or enhanced, with a cooling-off only in the initial, its end at most 900,000 after the session's time"
unfoldable pub slab_sound : Session → Bool
slab_sound s = leb s.clock.widened 1 ⊓ (eqb s.clock.widened 0 || eqb s.clock.cooling 0) ⊓ leb s.clock.cooling (s.clock.time + cooling_length)

-- "reference is 1 to 110,600,000, underlying 0 to 100,000,000; orders given and trades at most 60,000"
unfoldable pub numbers_sound : Sizes → Session → Bool
numbers_sound z s =
    between 1 s.reckoning.reference reference_most
    ⊓ leb s.clock.under price_most
    ⊓ leb s.live.given z.numbers
    ⊓ leb s.tape.trades z.trades

-- each number passes the test
unfoldable pub every : (ℕ → Bool) → List ℕ → Bool
every test [] = true
every test (x ∷ xs) = test x ⊓ every test xs

-- "a price that is a positive tick multiple up to 100,000,000"
abbrev pub price_sound : ℕ → ℕ → Bool
price_sound tick price = is_price price ⊓ on_tick tick price

-- "the remembered trades number the smaller of ten and all; .. each remembered trade has 1 to 10,000 lots and a price that is a
-- positive tick multiple up to 100,000,000"
unfoldable pub remembered_sound : ℕ → Tape → Bool
remembered_sound tick t = every (price_sound tick) (take (kept t.trades) t.prices) ⊓ every is_lots (take (kept t.trades) t.sizes)

-- "half-hour .. counts are at most all trades; .. half-hour lots lie between the count and 10,000 times it, their price×lots sum
-- between lots×tick and lots×100,000,000", which is the greatest price
unfoldable pub half_sound : ℕ → ℕ → ℕ → Tally → Bool
half_sound tick most trades h =
    leb h.count trades
    ⊓ between h.count h.lots (lots_most * h.count)
    ⊓ between (h.lots * tick) h.value (h.lots * most)

-- "minute counts are at most all trades; .. the minute's price sum lies between its count and 100,000,000 times it"
unfoldable pub minute_sound : ℕ → Minute → Bool
minute_sound trades m = leb m.count trades ⊓ between m.count m.sum (price_most * m.count)

-- the numbers of a session apart from what it remembers of trades
unfoldable pub clock_sound : Sizes → Session → Bool
clock_sound z s = settings_valid s.settings ⊓ time_sound s ⊓ counts_sound z s ⊓ slab_sound s ⊓ numbers_sound z s

-- what a session remembers of trades
unfoldable pub tape_sound : Session → Bool
tape_sound s =
    half_sound s.settings.tick price_most s.tape.trades s.tape.half
    ⊓ minute_sound s.tape.trades s.reckoning.minute
    ⊓ remembered_sound s.settings.tick s.tape

-- all numbers of a session, without its live orders
unfoldable pub session_sound : Sizes → Session → Bool
session_sound z s = clock_sound z s ⊓ tape_sound s

-- the live counts are the numbers of orders
unfoldable pub counted : Day → Bool
counted d = eqb d.session.live.buys (length d.buys) ⊓ eqb d.session.live.sells (length d.sells)

-- A SESSION IS SOUND, with its orders, by the given sizes
unfoldable pub sound_by : Sizes → Day → Bool
sound_by z d =
    session_sound z d.session
    ⊓ counted d
    ⊓ book_sound d.session.live.given d.session.settings.tick (band_now d.session) d.buys d.sells

-- the same by the sizes of the paper
abbrev pub sound : Day → Bool
sound d = sound_by sizes d

-- ---- the day that a session and two tables hold: as many orders from each table as the session's live counts say

abbrev pub day_in : Session → List ℕ → List ℕ → Day
day_in s buys sells = record { session = s; buys = decode s.live.buys buys; sells = decode s.live.sells sells }
