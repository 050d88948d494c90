-- Document 01, "Refusal numbers, first that applies": rows 2 to 11, which judge an event on a day.
use Rattle.std.specs.Prelude.{ℕ, Bool, true, cond, ◌||◌, not, List, [], ◌∷◌, leb, ltb, length}
use Rattle.terms.specs.declared.Event.{Event}
use Rattle.terms.specs.declared.Act.{Act}
use Rattle.terms.specs.declared.Entry.{Entry}
use Rattle.terms.specs.declared.Life.{Life}
use Rattle.terms.specs.declared.Life.TheVariants.{AllDay, Ioc}
use Rattle.terms.specs.declared.Band.{Band}
use Rattle.terms.specs.declared.Refusal.TheVariants.{Unsound, Closed, NumberRange, TimeBack, OutOfHours, OffTick, OutsideBand, NotResting, SideFull, DayFull}
use Rattle.terms.specs.Truth.{◌⊓◌}
use Rattle.terms.specs.Sizes.{Sizes, sizes}
use Rattle.terms.specs.Numbers.{is_price, is_lots, is_time, is_number, on_tick}
use Rattle.terms.specs.Refusals.{Verdict, Rule, unless, first_failed}
use Rattle.terms.specs.Options.{of_any}
use Rattle.rules_law.specs.Slabs.{in_band}
use Rattle.book_law.specs.Priority.{rests}
use Rattle.state_law.specs.Now.{band_now}
use Rattle.state_law.specs.Day.{Day, own, stepped_day}
use Rattle.soundness_law.specs.Sound.{sound_by}
use Rattle.terms.specs.Carried.{carries}

-- 4: "a number of the event out of its range"
unfoldable pub numbers_right : Act → Bool
numbers_right a = of_any is_lots (carries a).lots ⊓ of_any is_price (carries a).price ⊓ of_any is_number (carries a).number

-- 6: "close before the length, any other at or after it"
unfoldable pub in_hours : Act → ℕ → ℕ → Bool
in_hours a t length = cond (carries a).closes (leb length t) (ltb t length)

-- 7: "limit or settlement not a tick multiple"
unfoldable pub ticks_right : ℕ → Act → Bool
ticks_right tick a = of_any (on_tick tick) (carries a).ticked

-- 8: "limit outside the band"
unfoldable pub band_right : Band → Act → Bool
band_right band a = of_any (in_band band) (carries a).limit

abbrev pub rests_on : Day → ℕ → Bool
rests_on d number = rests number d.buys || rests number d.sells

-- 9: "cancel: no such resting order"
unfoldable pub finds : Day → Act → Bool
finds d a = of_any (rests_on d) (carries a).number

abbrev pub life_has_place : Sizes → Life → ℕ → Bool
life_has_place z AllDay held = ltb held z.side
life_has_place z Ioc held = true

-- 10: "day order, its own side holds 256"
unfoldable pub has_place : Sizes → Day → Act → Bool
has_place z d a = of_any (λ n. life_has_place z n.life (length (own n.side d))) (carries a).entry

abbrev pub number_left : Sizes → ℕ → ℕ → Entry → Bool
number_left z given trades n = ltb given z.numbers ⊓ leb trades z.before

-- 11: "order, and 60,000 orders given or over 59,744 trades made"
unfoldable pub has_numbers : Sizes → ℕ → ℕ → Act → Bool
has_numbers z given trades a = of_any (number_left z given trades) (carries a).entry

-- rows 8 to 11; "bands are judged after the clock steps"
abbrev pub book_rules : Sizes → Day → Event → List Rule
book_rules z d e =
    unless OutsideBand (band_right (band_now (stepped_day d e.time).session) e.act)
    ∷ unless NotResting (finds d e.act)
    ∷ unless SideFull (has_place z d e.act)
    ∷ unless DayFull (has_numbers z d.session.live.given d.session.tape.trades e.act)
    ∷ []

-- rows 6 to 11
abbrev pub market_rules : Sizes → Day → Event → List Rule
market_rules z d e =
    unless OutOfHours (in_hours e.act e.time d.session.settings.length)
    ∷ unless OffTick (ticks_right d.session.settings.tick e.act)
    ∷ book_rules z d e

-- rows 3 to 11
abbrev pub later_rules : Sizes → Day → Event → List Rule
later_rules z d e =
    unless Closed (not d.session.clock.closed)
    ∷ unless NumberRange (is_time e.time ⊓ numbers_right e.act)
    ∷ unless TimeBack (leb d.session.clock.time e.time)
    ∷ market_rules z d e

-- rows 2 to 11 of the table, in its order, by the given sizes
abbrev pub rules_by : Sizes → Day → Event → List Rule
rules_by z d e = unless Unsound (sound_by z d) ∷ later_rules z d e

-- the same by the sizes of the paper
abbrev pub rules : Day → Event → List Rule
rules d e = rules_by sizes d e

unfoldable pub refusal_of : Day → Event → Verdict
refusal_of d e = first_failed (rules d e)
