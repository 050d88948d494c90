-- Tests of what an act may carry.
use Prim.Native.Nat.{ℕ}
use mathlib.Core.Path.{◌≡◌, refl, ap, ◌∙◌}
use mathlib.Core.Bool.{Bool, cond}
use lib.Dec.{leb, ltb}
use Rattle.std.specs.Prelude.{Option, Some, None}
use Rattle.terms.specs.declared.Act.{Act}
use Rattle.terms.specs.declared.Band.{Band}
use Rattle.terms.specs.declared.parts.Parts.{Parts}
use Rattle.terms.specs.Truth.{◌⊓◌}
use Rattle.terms.specs.Sizes.{sizes}
use Rattle.terms.specs.Numbers.{is_lots, is_price, is_time, is_number, on_tick}
use Rattle.terms.specs.Options.{of_any}
use Rattle.terms.specs.Carried.{carries}
use Rattle.rules_law.specs.Slabs.{in_band}
use Rattle.state_law.specs.Day.{Day}
use Rattle.refusal_law.specs.Refusals.{numbers_right, in_hours, ticks_right, band_right, rests_on, finds, number_left, has_numbers}

-- two tests that agree on every value agree on a value that may be missing
pub any_same : {A : Type 0} (f g : A → Bool) → ((x : A) → f x ≡ g x) → (x : Option A) → of_any f x ≡ of_any g x
any_same f g h None = refl
any_same f g h (Some x) = h x

-- ---- the rows as code tries them, on the parts of an act: `search carried_rows` takes each to its row

module _ (p : Parts) (a : Act) (found : Bool) (h : p ≡ carries a) where
  pub numbers-row : (t : ℕ) → found ≡ (is_time t ⊓ (of_any is_lots p.lots ⊓ of_any is_price p.price ⊓ of_any is_number p.number)) →
      found ≡ (is_time t ⊓ numbers_right a)
  unfolding numbers_right
  numbers-row t e = e ∙ ap (λ (c : Parts). is_time t ⊓ (of_any is_lots c.lots ⊓ of_any is_price c.price ⊓ of_any is_number c.number)) h

  pub hours_row : (t length : ℕ) → found ≡ cond p.closes (leb length t) (ltb t length) → found ≡ in_hours a t length
  unfolding in_hours
  hours_row t length e = e ∙ ap (λ (c : Parts). cond c.closes (leb length t) (ltb t length)) h

  pub ticks_row : (tick : ℕ) → found ≡ of_any (on_tick tick) p.ticked → found ≡ ticks_right tick a
  unfolding ticks_right
  ticks_row tick e = e ∙ ap (λ (c : Parts). of_any (on_tick tick) c.ticked) h

  pub band-row : (band : Band) → found ≡ of_any (in_band band) p.limit → found ≡ band_right band a
  unfolding band_right
  band-row band e = e ∙ ap (λ (c : Parts). of_any (in_band band) c.limit) h

  pub finds-row : (d : Day) → found ≡ of_any (rests_on d) p.number → found ≡ finds d a
  unfolding finds
  finds-row d e = e ∙ ap (λ (c : Parts). of_any (rests_on d) c.number) h

  pub left-row : (given trades : ℕ) → found ≡ of_any (number_left sizes given trades) p.entry → found ≡ has_numbers sizes given trades a
  unfolding has_numbers
  left-row given trades e = e ∙ ap (λ (c : Parts). of_any (number_left sizes given trades) c.entry) h

pub ruleset carried_rows = (numbers-row, hours_row, ticks_row, band-row, finds-row, left-row)
