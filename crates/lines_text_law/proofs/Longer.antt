-- A right answer stays right when more bytes follow, unless it was "unfinished".
use Prim.Native.Nat.{ℕ, ◌+◌, ◌≤◌, ◌<◌}
use native.Mathlib.Omega.{arith}
use mathlib.Core.Path.{◌≡◌, refl, sym, ap, ◌∙◌, subst}
use mathlib.Core.List.{List, [], ◌++◌, append_assoc, append-nil}
use lib.ListN.{length, take, drop, length-append, take-append-drop}
use lib.Seq.{take-append-le, take-take}
use lib.Dec.{ltb}
use borrow.Author.Tests.{ltb-true, ltb-false}
use Rattle.terms.proofs.Logic.{cases}
use Rattle.lines_text_law.specs.Grammar.{LineAnswer, whole, unfinished, wrong}
use Rattle.lines_text_law.specs.Reading.{Begins, Contains, Right}

module _ {E : Type 0} (L : E → List ℕ → Type 0) where
  -- every start of bytes that begin a line begins one too
  begins-start : (b : List ℕ) (n : ℕ) → Begins L b → Begins L (take n b)
  begins-start b n (e, rest, l) =
      (e, drop n b ++ rest, subst (L e) (ap (λ (x : List ℕ). x ++ rest) (sym (take-append-drop n b)) ∙ append_assoc (take n b) (drop n b) rest) l)

  module _ (xs ys : List ℕ) where
    long : length (xs ++ ys) ≡ length xs + length ys
    long = length-append xs ys

    front : (n : ℕ) → n ≤ length xs → take n (xs ++ ys) ≡ take n xs
    front n h = take-append-le n xs ys h

    whole_longer : (e : E) (n : ℕ) → Right L xs (whole e n) → Right L (xs ++ ys) (whole e n)
    whole_longer e n (h, l) = (rw long (omega arith), subst (L e) (sym (front n h)) l)

    module _ (n : ℕ) (r : Right L xs (wrong n)) where
      -- no longer start begins a line,
      none_longer : (k : ℕ) → n < k → Begins L (take k (xs ++ ys)) → ⊥
      none_longer k h b =
          let c : take (n + 1) (take k (xs ++ ys)) ≡ take (n + 1) xs = take-take (n + 1) k (xs ++ ys) (omega arith) ∙ front (n + 1) (omega (arith, r.0)) in
          r.2 (n + 1) (omega arith) (omega (arith, r.0)) (subst (Begins L) c (begins-start (take k (xs ++ ys)) (n + 1) b))

      -- and so none is whole
      none-whole : Contains L (xs ++ ys) → ⊥
      none-whole (e, m, h, l) =
          cases (ltb n m)
          (λ t. none_longer m (ltb-true n m t) (e, [], subst (L e) (sym (append-nil (take m (xs ++ ys)))) l))
          (λ t.
          let k : m ≤ n = ltb-false n m t in
          let w : m ≤ length xs = omega (arith, r.0) in
          r.3 (e, m, w, subst (L e) (front m w) l))

      wrong_longer : Right L (xs ++ ys) (wrong n)
      wrong_longer =
          (rw long (omega (arith, r.0)), subst (Begins L) (sym (front n (omega (arith, r.0)))) r.1, (λ k h j b. none_longer k h b), none-whole)

    pub right_longer : (o : LineAnswer E) → (o ≡ unfinished → ⊥) → Right L xs o → Right L (xs ++ ys) o
    right_longer (whole e n) u r = whole_longer e n r
    right_longer unfinished u r = absurd (u refl)
    right_longer (wrong n) u r = wrong_longer n r
