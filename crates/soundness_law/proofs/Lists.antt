-- Two ways to test the numbers of an array: up to the first that fails; or all ten, without leaving the loop.
use Prim.Native.Nat.{ℕ, zero, suc, ◌+◌, ◌<◌}
use native.Mathlib.Omega.{arith}
use native.Mathlib.Numerals.{add-one}
use mathlib.Core.Path.{◌≡◌, refl, sym, ◌∙◌}
use mathlib.Core.Bool.{Bool, true, false, ◌&&◌}
use mathlib.Core.List.{List, [], ◌∷◌}
use lib.ListN.{length, get_or, take}
use lib.Seq.{take_all}
use Rattle.std.specs.List.{list_all}
use Rattle.terms.specs.Truth.{◌⊓◌}
use Rattle.terms.specs.Numbers.{is_price, is_lots, on_tick}
use Rattle.terms.proofs.Logic.{both, regroup}
use Rattle.rules_law.specs.declared.Tape.{Tape}
use Rattle.rules_law.specs.Close.{kept}
use Rattle.soundness_law.specs.Sound.{every, price_sound, remembered_sound}

-- std's word for all numbers passing a test
pub every_all : (test : ℕ → Bool) (xs : List ℕ) → list_all test xs ≡ every test xs
unfolding every ◌⊓◌
every_all test [] = refl
every_all test (x ∷ xs) = rw (every_all test xs)

-- if all numbers pass a test, each of them does
pub at_place : (test : ℕ → Bool) (xs : List ℕ) → every test xs ≡ true → (k : ℕ) → k < length xs → test (get_or xs k 0) ≡ true
unfolding every
at_place test [] e k h = absurd (omega arith)
at_place test (x ∷ xs) e zero h = (both e).0
at_place test (x ∷ xs) e (suc k) h = at_place test xs (both e).1 k (omega arith)

-- ---- all numbers, without leaving the loop

and_true : (b : Bool) → (b ⊓ true) ≡ b
unfolding ◌⊓◌
and_true true = refl
and_true false = refl

next_tested : (test : ℕ → Bool) (a : List ℕ) (i : ℕ) → i < length a → every test (take (suc i) a) ≡ (every test (take i a) ⊓ test (get_or a i 0))
unfolding every ◌⊓◌
next_tested test [] i h = absurd (omega arith)
next_tested test (x ∷ xs) zero h = and_true (test x)
next_tested test (x ∷ xs) (suc i) h = rw (next_tested test xs i (omega arith)) (regroup _ (test x) (every test (take i xs)) (test (get_or xs i 0)) refl)

module _ (test : ℕ → Bool) (a : List ℕ) (i : ℕ) (all : Bool) (e : all ≡ every test (take i a)) where
  pub one_more : (found : Bool) → found ≡ test (get_or a i 0) → i < length a → (all && found) ≡ every test (take (i + 1) a)
  unfolding ◌⊓◌
  one_more found f h = rw (add-one i, next_tested test a i h, e, f)

-- testing each number for both is testing all for the one and all for the other
pub both_tests : (f g : ℕ → Bool) (a : List ℕ) → every (λ x. f x ⊓ g x) a ≡ (every f a ⊓ every g a)
unfolding every ◌⊓◌
both_tests f g [] = refl
both_tests f g (x ∷ xs) = rw (both_tests f g xs) (swap (f x) (g x) (every f xs) (every g xs))
  where
    swap : (a b c d : Bool) → ((a && b) && (c && d)) ≡ ((a && c) && (b && d))
    swap true true c d = refl
    swap true false true d = refl
    swap true false false d = refl
    swap false b c d = refl

-- prices are sound where they are in range and on the tick
pub prices_decide : (tick : ℕ) (prices : List ℕ) (rest r : Bool) → r ≡ (every is_price prices ⊓ every (on_tick tick) prices ⊓ rest) → r ≡ (every (price_sound tick) prices ⊓ rest)
prices_decide tick prices rest r e = rw (both_tests is_price (on_tick tick) prices) e

-- ---- a tape with ten trades

pub full_tape : (tick : ℕ) (t : Tape) (n : ℕ) (r : Bool) → length t.prices ≡ 10 → length t.sizes ≡ 10 → n ≡ kept t.trades → n ≡ 10 →
    r ≡ (every (price_sound tick) t.prices ⊓ every is_lots t.sizes) → r ≡ remembered_sound tick t
unfolding remembered_sound
full_tape tick t n r lp ls k e f = rw (sym k ∙ e, take_all 10 t.prices (omega arith), take_all 10 t.sizes (omega arith)) f
