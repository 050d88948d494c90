-- A function that tests for one number after the other: `search numbered` answers each `return`.
use Prim.Native.Nat.{ℕ}
use mathlib.Core.Path.{◌≡◌, refl}
use mathlib.Core.Bool.{cond}
use lib.Dec.{eqb}
use borrow.Author.Tests.{eq-eqb, ne_eqb}

pub here : {A : Type 0} (k n : ℕ) (o x y : A) → k ≡ n → o ≡ x → o ≡ cond (eqb k n) x y
here k n o x y e h = rw (eq-eqb k n e) h

pub there : {A : Type 0} (k n : ℕ) (o x y : A) → (k ≡ n → ⊥) → o ≡ y → o ≡ cond (eqb k n) x y
there k n o x y e h = rw (ne_eqb k n e) h

pub as_it_is : {A : Type 0} (o : A) → o ≡ o
as_it_is o = refl

pub ruleset numbered = (here, there, as_it_is)
