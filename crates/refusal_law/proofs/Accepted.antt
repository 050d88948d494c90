-- An accepted event has passed every row of the table: what each row says of it.
use Prim.Native.Nat.{ℕ, ◌≤◌, ◌<◌}
use native.Mathlib.Omega.{arith}
use mathlib.Core.Path.{◌≡◌, refl}
use mathlib.Core.Bool.{Bool, true, false, cond, ◌&&◌, ◌||◌, not}
use mathlib.Core.List.{List, [], ◌∷◌}
use borrow.Author.Tests.{leb-true, ltb-true, eqb-false, not-true}
use lib.Dec.{leb, ltb, eqb}
use lib.ListN.{length}
use Rattle.std.specs.Prelude.{Option, Some, Ok, Err}
use Rattle.terms.specs.declared.Entry.{Entry}
use Rattle.terms.specs.declared.Event.{Event}
use Rattle.terms.specs.declared.Refusal.{Refusal}
use Rattle.terms.specs.declared.Refusal.TheVariants.{Unsound, Closed, NumberRange, TimeBack, OutOfHours, OffTick, OutsideBand, NotResting, SideFull, DayFull}
use Rattle.terms.specs.Truth.{◌⊓◌}
use Rattle.terms.specs.Sizes.{time_most, lots_most, price_most, numbers_most, trades_before, sizes}
use Rattle.terms.specs.Numbers.{is_time, is_lots, is_price, is_number, on_tick}
use Rattle.terms.specs.Refusals.{Verdict, number_of, Rule, first_failed, code_of}
use Rattle.terms.proofs.Logic.{by, cases, split, both, between_facts}
use Rattle.terms.specs.Options.{of_any}
use Rattle.rules_law.specs.Slabs.{in_band}
use Rattle.book_law.specs.Priority.{rests}
use Rattle.state_law.specs.Now.{band_now}
use Rattle.state_law.specs.Clock.{clock_step}
use Rattle.state_law.specs.Day.{Day, own}
use Rattle.soundness_law.specs.Sound.{sound}
use Rattle.terms.specs.Carried.{carries}
use Rattle.refusal_law.specs.Refusals.{numbers_right, in_hours, ticks_right, band_right, finds, life_has_place, has_place, has_numbers, later_rules, rules, refusal_of}

-- what the row with that number asks for; true where there is no such row
unfoldable row_of : ℕ → List Rule → Bool
row_of n [] = true
row_of n (r ∷ rs) = cond (eqb (number_of r.refusal) n) r.holds (row_of n rs)

not-fine : {P : Type 0} (r : Refusal) → ◌≡◌ {A = Verdict} (Err r) (Ok tt) → P
not-fine r e = absurd (let z : ◌≡◌ {A = ℕ} 0 1 = cc in omega arith)

row-holds : (rs : List Rule) → first_failed rs ≡ Ok tt → (n : ℕ) → row_of n rs ≡ true
unfolding first_failed row_of
row-holds [] e n = refl
row-holds (r ∷ rs) e n =
    cases r.holds
    (λ h. by (λ (x : Bool). x ≡ true) (eqb (number_of r.refusal) n) r.holds (row_of n rs) (λ z. h) (λ z. row-holds rs (rw h at e) n))
    (λ h. not-fine r.refusal (rw h at e))

-- none of the rows 2 to 11 applies
pub record Accepted (d : Day) (e : Event) : Type 0 where
  pub whole : sound d ≡ true
  pub running : not d.session.clock.closed ≡ true
  pub ranged : (is_time e.time ⊓ numbers_right e.act) ≡ true
  pub forward : leb d.session.clock.time e.time ≡ true
  pub timely : in_hours e.act e.time d.session.settings.length ≡ true
  pub ticked : ticks_right d.session.settings.tick e.act ≡ true
  pub banded : band_right (band_now (clock_step d.session e.time)) e.act ≡ true
  pub found : finds d e.act ≡ true
  pub placed : has_place sizes d e.act ≡ true
  pub numbered : has_numbers sizes d.session.live.given d.session.tape.trades e.act ≡ true

pub accepted : (d : Day) (e : Event) → refusal_of d e ≡ Ok tt → Accepted d e
unfolding refusal_of row_of
accepted d e h =
    let row : (n : ℕ) → row_of n (rules d e) ≡ true = row-holds (rules d e) h in
    record {
      whole = row (number_of Unsound);
      running = row (number_of Closed);
      ranged = row (number_of NumberRange);
      forward = row (number_of TimeBack);
      timely = row (number_of OutOfHours);
      ticked = row (number_of OffTick);
      banded = row (number_of OutsideBand);
      found = row (number_of NotResting);
      placed = row (number_of SideFull);
      numbered = row (number_of DayFull);
    }

-- ---- the numbers of an accepted event, by what its act carries

any_some : {A : Type 0} (f : A → Bool) (x : Option A) (y : A) → of_any f x ≡ true → x ≡ Some y → f y ≡ true
any_some f x y h e = rw e at h

module _ (d : Day) (e : Event) (k : Accepted d e) where
  right : (of_any is_lots (carries e.act).lots ⊓ of_any is_price (carries e.act).price ⊓ of_any is_number (carries e.act).number) ≡ true
  unfolding numbers_right
  right = (both k.ranged).1

  pub time_right : e.time ≤ time_most
  time_right = leb-true e.time time_most (both k.ranged).0

  pub lots-right : (lots : ℕ) → (carries e.act).lots ≡ Some lots → (1 ≤ lots) × (lots ≤ lots_most)
  lots-right lots c = between_facts 1 lots lots_most (any_some is_lots (carries e.act).lots lots (both (both right).0).0 c)

  pub price-right : (price : ℕ) → (carries e.act).price ≡ Some price → (1 ≤ price) × (price ≤ price_most)
  price-right price c = between_facts 1 price price_most (any_some is_price (carries e.act).price price (both (both right).0).1 c)

  pub number-right : (number : ℕ) → (carries e.act).number ≡ Some number → (1 ≤ number) × (number ≤ numbers_most)
  number-right number c = between_facts 1 number numbers_most (any_some is_number (carries e.act).number number (both right).1 c)

  -- every event but the close comes before the day's length
  pub in_day : (carries e.act).closes ≡ false → ltb e.time d.session.settings.length ≡ true
  unfolding in_hours
  in_day c = rw c at k.timely

  -- for an order there is a number left, and room for its trades
  pub numbers-left : (n : Entry) → (carries e.act).entry ≡ Some n → (d.session.live.given < numbers_most) × (d.session.tape.trades ≤ trades_before)
  unfolding has_numbers
  numbers-left n c =
      let q = both (any_some (λ (x : Entry). ltb d.session.live.given numbers_most ⊓ leb d.session.tape.trades trades_before) (carries e.act).entry n k.numbered c) in
      (ltb-true d.session.live.given numbers_most q.0, leb-true d.session.tape.trades trades_before q.1)

  -- a limit or settlement is a multiple of the tick, and a limit lies in the band after the clock steps
  pub tick_right : (p : ℕ) → (carries e.act).ticked ≡ Some p → on_tick d.session.settings.tick p ≡ true
  unfolding ticks_right
  tick_right p c = any_some (on_tick d.session.settings.tick) (carries e.act).ticked p k.ticked c

  pub band-right : (p : ℕ) → (carries e.act).limit ≡ Some p → in_band (band_now (clock_step d.session e.time)) p ≡ true
  unfolding band_right
  band-right p c = any_some (in_band (band_now (clock_step d.session e.time))) (carries e.act).limit p k.banded c

  -- an order that is to be cancelled rests, and for one that comes in there is a place
  pub rests-right : (number : ℕ) → (carries e.act).number ≡ Some number → (rests number d.buys || rests number d.sells) ≡ true
  unfolding finds
  rests-right number c = any_some (λ n. rests n d.buys || rests n d.sells) (carries e.act).number number k.found c

  pub place-right : (n : Entry) → (carries e.act).entry ≡ Some n → life_has_place sizes n.life (length (own n.side d)) ≡ true
  unfolding has_place
  place-right n c = any_some (λ n. life_has_place sizes n.life (length (own n.side d))) (carries e.act).entry n k.placed c

-- ---- rows 2 and 3

-- a number that no rule of a list has is not what the list answers
abbrev lacks : ℕ → List Rule → Bool
lacks n [] = true
lacks n (r ∷ rs) = not (eqb (number_of r.refusal) n) && lacks n rs

not_among : (n : ℕ) (rs : List Rule) → (0 ≡ n → ⊥) → lacks n rs ≡ true → code_of (first_failed rs) ≡ n → ⊥
unfolding first_failed
not_among n [] z o e = z e
not_among n (r ∷ rs) z o e =
    let q = split (not (eqb (number_of r.refusal) n)) (lacks n rs) o in
    cases r.holds
    (λ h. not_among n rs z q.1 (rw h at e))
    (λ h. eqb-false (number_of r.refusal) n (not-true _ q.0) (rw h at e))

-- only a day that is not sound is refused with 2
pub sound-not_two : (d : Day) (e : Event) → sound d ≡ true → code_of (refusal_of d e) ≡ 2 → ⊥
unfolding refusal_of first_failed
sound-not_two d e h r = not_among 2 (later_rules sizes d e) (λ z. omega arith) refl (rw h at r)

-- on a day that is not sound every event is refused with 2
pub unsound_refused : (d : Day) (e : Event) → sound d ≡ false → refusal_of d e ≡ Err Unsound
unfolding refusal_of first_failed
unsound_refused d e h = rw h

-- on a sound day that is closed every event is refused with 3
pub closed_refused : (d : Day) (e : Event) → sound d ≡ true → d.session.clock.closed ≡ true → refusal_of d e ≡ Err Closed
unfolding refusal_of first_failed
closed_refused d e h c = rw (h, c)
