-- Comparing keys is comparing priorities, so a pass finds out whether a side is sound and the low bits of its numbers are all new.
use Prim.Native.Nat.{ℕ, ◌+◌, ◌-◌, ◌*◌, ◌≤◌, ◌<◌}
use native.Mathlib.Omega.{arith}
use mathlib.Core.Bool.{Bool, true, false, ◌&&◌, ◌||◌, not}
use mathlib.Core.Path.{◌≡◌, refl, sym}
use mathlib.Core.List.{List, [], ◌∷◌}
use lib.Dec.{eqb, ltb}
use lib.Bits.{bit_and}
use borrow.Author.Tests.{eqb-true, eqb-false, ltb-true, ltb-false, lt-ltb, le-ltb}
use Rattle.terms.specs.declared.Side.{Side}
use Rattle.terms.specs.declared.Side.TheVariants.{Buy, Sell}
use Rattle.terms.specs.declared.Order.{Order}
use Rattle.terms.specs.Sizes.{numbers_most}
use Rattle.terms.specs.Truth.{◌⊓◌}
use Rattle.terms.proofs.Logic.{between_facts}
use Rattle.book_law.specs.Priority.{ahead, head_behind, sorted}
use Rattle.book_sound_law.specs.declared.Limits.{Limits}
use Rattle.book_sound_law.specs.Sound.{each_sound}
use Rattle.book_sound_law.specs.code.Marks.{has_mark, with_mark, fresh}
use Rattle.book_sound_law.specs.code.Pass.{band_of, fine, Keyed, key_step, key_of, low_bits, pass_of, side_sound}
use Rattle.book_sound_law.proofs.Facts.{order-fits}

-- the key of a fine order can be computed
pub keyed : (l : Limits) (o : Order) → fine l o ≡ true → Keyed l o
keyed l o e =
    let f = order-fits l.given l.tick (band_of l) o e in
    let w = between_facts l.low o.price l.high f.banded in
    record { number_some = f.number_some; number_given = f.number_given; above = w.0; below = w.1 }

-- ---- keys stand in the order of priority: c and d are how far prices p and q lie from the best; u and v are p and q as the side compares them

module _ (p q u v n m c d : ℕ) (l : n < key_step) (k : m < key_step) (f : u < v → c < d) (g : v < u → d < c) (h : p ≡ q → c ≡ d)
    (a : u ≡ v → p ≡ q) where
  by_key : (x y z : Bool) → ltb u v ≡ x → eqb p q ≡ y → ltb n m ≡ z → ltb (c * key_step + n) (d * key_step + m) ≡ (x || (y && z))
  by_key true y z e e' e'' = let w = f (ltb-true u v e) in lt-ltb (c * key_step + n) (d * key_step + m) (omega arith)
  by_key false true true e e' e'' = let w = h (eqb-true p q e') in lt-ltb (c * key_step + n) (d * key_step + m) (omega (arith, ltb-true n m e''))
  by_key false true false e e' e'' = let w = h (eqb-true p q e') in le-ltb (c * key_step + n) (d * key_step + m) (omega (arith, ltb-false n m e''))
  by_key false false z e e' e'' =
      let ne : u ≡ v → ⊥ = λ r. eqb-false p q e' (a r) in
      let w = g (omega (arith, ltb-false u v e)) in
      le-ltb (c * key_step + n) (d * key_step + m) (omega arith)

key_ahead : (s : Side) (l : Limits) (x y : Order) → l.given ≤ numbers_most → Keyed l x → Keyed l y →
    ltb (key_of s l x) (key_of s l y) ≡ ahead s x y
unfolding ahead
key_ahead Buy l x y h i j =
    by_key x.price y.price y.price x.price x.number y.number (l.high - x.price) (l.high - y.price)
    (omega arith) (omega arith) (λ r. omega arith) (λ r. omega arith) (λ r. rw r) (λ r. sym r)
    (ltb y.price x.price) (eqb x.price y.price) (ltb x.number y.number) refl refl refl
key_ahead Sell l x y h i j =
    by_key x.price y.price x.price y.price x.number y.number (x.price - l.low) (y.price - l.low)
    (omega arith) (omega arith) (λ r. omega arith) (λ r. omega arith) (λ r. rw r) (λ r. r)
    (ltb x.price y.price) (eqb x.price y.price) (ltb x.number y.number) refl refl refl

key_some : (s : Side) (l : Limits) (x : Order) → Keyed l x → 0 < key_of s l x
key_some Buy l x k = omega arith
key_some Sell l x k = omega arith

-- ---- a pass succeeds exactly where the side is sound and its marks are fresh

never : (g : Bool) → false ≡ (g && false)
never true = refl
never false = refl

-- the tests of a turn, regrouped: a and f are those of this order, for key and mark; b, e, s and r are those of the orders behind it
sort : (a f b e s r : Bool) → (a && (f && ((b && (e && s)) && r))) ≡ ((a && (e && (b && s))) && (f && r))
sort true true true e s r = refl
sort true true false true s r = refl
sort true true false false s r = refl
sort true false b e s r = never (e && (b && s))
sort false f b e s r = refl

module _ (s : Side) (l : Limits) (mask : ℕ) (h : l.given ≤ numbers_most) where
  -- what a pass over os, after the order p, comes to
  Rest : Order → List Order → Type 0
  Rest p os = (m : List ℕ) → pass_of s l mask (key_of s l p) m os ≡ ((head_behind s p os && side_sound s l os) && fresh m (low_bits mask os))

  -- a turn at the order x, where `a` is the outcome of comparing its key with the last one
  turn : (x : Order) (xs : List Order) (m : List ℕ) (key : ℕ) (a c : Bool) → fine l x ≡ c → (Keyed l x → ltb key (key_of s l x) ≡ a) →
      (Keyed l x → Rest x xs) → pass_of s l mask key m (x ∷ xs) ≡ ((a && side_sound s l (x ∷ xs)) && fresh m (low_bits mask (x ∷ xs)))
  unfolding Rest pass_of each_sound sorted fresh low_bits ◌⊓◌
  turn x xs m key a true e f ih =
      let k = keyed l x e in
      let bits : ℕ = bit_and x.number mask in
      rw (e, f k, ih k (with_mark m bits))
      (sort a (not (has_mark m bits)) (head_behind s x xs) (each_sound l.given l.tick (band_of l) xs) (sorted s xs) _)
  turn x xs m key a false e f ih = rw e (drop_all a (head_behind s x xs && sorted s xs) _)
    where
      drop_all : (a g r : Bool) → false ≡ ((a && (false && g)) && r)
      drop_all true g r = refl
      drop_all false g r = refl

  rest : (p : Order) (os : List Order) → Keyed l p → Rest p os
  unfolding Rest head_behind pass_of each_sound sorted fresh low_bits
  rest p [] g m = refl
  rest p (x ∷ xs) g m = turn x xs m (key_of s l p) (ahead s p x) (fine l x) refl (λ k. key_ahead s l p x h g k) (λ k. rest x xs k)

  pub pass_is : (m : List ℕ) (os : List Order) → pass_of s l mask 0 m os ≡ (side_sound s l os && fresh m (low_bits mask os))
  unfolding pass_of each_sound sorted fresh low_bits
  pass_is m [] = refl
  pass_is m (x ∷ xs) = turn x xs m 0 true (fine l x) refl (λ k. lt-ltb 0 (key_of s l x) (key_some s l x k)) (λ k. rest x xs k)
