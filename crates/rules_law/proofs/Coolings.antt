-- The cooling-off: exactly what starts one, and from what time on it is over.
use Prim.Native.Nat.{ℕ, ◌+◌, ◌≤◌, ◌<◌}
use native.Mathlib.Omega.{arith}
use mathlib.Core.Path.{◌≡◌, refl}
use mathlib.Core.Bool.{Bool, true, false, cond, ◌&&◌}
use borrow.Author.Tests.{eq-eqb, ne_eqb, le-leb, lt-leb}
use lib.Dec.{eqb}
use Rattle.terms.specs.declared.Band.{Band}
use Rattle.terms.proofs.Logic.{no_both, or_left, or-last}
use Rattle.rules_law.specs.Slabs.{cooling_length, touches, cooling_after, over_by}

-- ---- "A trade exactly at either end"

pub touches_low : (b : Band) → touches b b.low ≡ true
touches_low b = or_left _ _ (eq-eqb b.low b.low refl)

pub touches_high : (b : Band) → touches b b.high ≡ true
touches_high b = or-last (eqb b.high b.low) _ (λ e. eq-eqb b.high b.high refl)

pub touches-only : (b : Band) (x : ℕ) → (x ≡ b.low → ⊥) → (x ≡ b.high → ⊥) → touches b x ≡ false
touches-only b x h k = rw (ne_eqb x b.low h, ne_eqb x b.high k)

-- ---- what starts a cooling-off

-- the slab is the initial one, no cooling-off runs, and the trade is at either end of the band
abbrev pub starts_one : ℕ → ℕ → Band → ℕ → Bool
starts_one widened cooling b price = eqb widened 0 && (eqb cooling 0 && touches b price)

all_three : (a b c : Bool) → (x y : ℕ) → a && (b && c) ≡ true → cond a (cond b (cond c x y) y) y ≡ x
all_three true true true x y p = refl
all_three true true false x y p = no_both false p refl
all_three true false c x y p = no_both false p refl
all_three false b c x y p = no_both false p refl

not-all : (a b c : Bool) → (x y : ℕ) → a && (b && c) ≡ false → cond a (cond b (cond c x y) y) y ≡ y
not-all true true true x y p = no_both true refl p
not-all true true false x y p = refl
not-all true false c x y p = refl
not-all false b c x y p = refl

-- where all three hold, a cooling-off starts
pub starts : (widened cooling time : ℕ) → (b : Band) → (price : ℕ) → starts_one widened cooling b price ≡ true → cooling_after widened cooling time b price ≡ time + cooling_length
unfolding cooling_after
starts widened cooling time b price = all_three (eqb widened 0) (eqb cooling 0) (touches b price) (time + cooling_length) cooling

-- where one fails, none starts, and one that runs keeps its end
pub stays : (widened cooling time : ℕ) → (b : Band) → (price : ℕ) → starts_one widened cooling b price ≡ false → cooling_after widened cooling time b price ≡ cooling
unfolding cooling_after
stays widened cooling time b price = not-all (eqb widened 0) (eqb cooling 0) (touches b price) (time + cooling_length) cooling

-- ---- "at or after its end"

pub over_from : (cooling t : ℕ) → 1 ≤ cooling → cooling ≤ t → over_by cooling t ≡ true
over_from cooling t some h = rw (ne_eqb cooling 0 (λ e. omega arith), le-leb cooling t h)

pub over-before : (cooling t : ℕ) → t < cooling → over_by cooling t ≡ false
over-before cooling t h = rw (ne_eqb cooling 0 (λ e. omega arith), lt-leb cooling t h)

-- a cooling-off that does not run is never over
pub none_over : (t : ℕ) → over_by 0 t ≡ false
none_over t = refl
