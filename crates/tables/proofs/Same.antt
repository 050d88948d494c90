-- Runs that are told to be the same are equal, and a run is the same as itself.
use Prim.Native.Nat.{ℕ}
use mathlib.Core.Path.{◌≡◌, refl}
use mathlib.Core.Bool.{Bool, true, false, ◌&&◌}
use mathlib.Core.List.{List, [], ◌∷◌}
use lib.Dec.{eqb}
use lib.Pointwise.{bytes_decides}
use borrow.Author.Tests.{eq-eqb}
use Rattle.tables.specs.Same.{are_same}

pub same_itself : (ns : List ℕ) → are_same ns ns ≡ true
same_itself ns = (bytes_decides ns ns).1 refl

pub same_equal : (ns ms : List ℕ) → are_same ns ms ≡ true → ns ≡ ms
same_equal ns ms e = (bytes_decides ns ms).0 e

-- ---- as code compares five numbers, beside a time that is the same

pub five_same : (a b c d e a' b' c' d' e' : ℕ) → (eqb a a' && eqb b b' && eqb c c' && eqb d d' && eqb e e') ≡ are_same (a ∷ b ∷ c ∷ d ∷ e ∷ []) (a' ∷ b' ∷ c' ∷ d' ∷ e' ∷ [])
five_same a b c d e a' b' c' d' e' = joined (eqb a a') (eqb b b') (eqb c c') (eqb d d') (eqb e e')
  where
    joined : (p q r s t : Bool) → (p && q && r && s && t) ≡ (p && (q && (r && (s && (t && true)))))
    joined false q r s t = refl
    joined true false r s t = refl
    joined true true false s t = refl
    joined true true true false t = refl
    joined true true true true false = refl
    joined true true true true true = refl

pub same_first : (n : ℕ) (ns ms : List ℕ) → are_same ns ms ≡ are_same (n ∷ ns) (n ∷ ms)
same_first n ns ms = rw (eq-eqb n n refl)

pub same_second : (a b n : ℕ) (ns ms : List ℕ) → are_same (a ∷ ns) (b ∷ ms) ≡ are_same (a ∷ n ∷ ns) (b ∷ n ∷ ms)
same_second a b n ns ms = rw (eq-eqb n n refl)
