-- The two passes share a map: the second goes on from the marks of the first.
use Prim.Native.Nat.{ℕ, ◌≤◌, ◌<◌}
use native.Mathlib.Omega.{arith}
use mathlib.Core.Bool.{Bool, true, false, ◌&&◌, ◌||◌, not, cond, false≢true}
use mathlib.Core.Path.{◌≡◌, refl, sym, ◌∙◌}
use mathlib.Core.List.{List, [], ◌∷◌, ◌++◌}
use lib.Bits.{and_le_r}
use lib.Dec.{leb}
use lib.ListN.{length, replicate}
use borrow.Author.Tests.{le-leb, lt-leb, not-true, not-false}
use Rattle.terms.specs.declared.Side.TheVariants.{Buy, Sell}
use Rattle.terms.specs.declared.Order.{Order}
use Rattle.book_sound_law.specs.declared.Limits.{Limits}
use Rattle.book_sound_law.specs.code.Marks.{words_to, fresh, marked, apart}
use Rattle.book_sound_law.specs.code.Pass.{LimitsFit, low_bits, pass_of, side_sound, sides_by, least_mask}
use Rattle.book_sound_law.proofs.Fresh.{Inside, both_fresh}
use Rattle.book_sound_law.proofs.Keys.{pass_is}

bits_inside : (mask words : ℕ) (os : List Order) → words_to mask ≤ words → Inside words (low_bits mask os)
unfolding low_bits
bits_inside mask words [] h = tt
bits_inside mask words (o ∷ os) h = (omega (arith, and_le_r o.number mask), bits_inside mask words os h)

stop_by : (sb fb ss x : Bool) → (sb && fb) ≡ false → false ≡ (sb && (ss && (fb && x)))
stop_by true true ss x e = absurd (false≢true (sym e))
stop_by true false true x e = refl
stop_by true false false x e = refl
stop_by false fb ss x e = refl

end_by_lem : (sb fb ss x : Bool) → (sb && fb) ≡ true → (ss && x) ≡ (sb && (ss && (fb && x)))
end_by_lem true true ss x e = refl
end_by_lem true false ss x e = absurd (false≢true e)
end_by_lem false fb ss x e = absurd (false≢true e)

module _ (l : Limits) (k : LimitsFit l) (mask : ℕ) (m₀ : List ℕ) (h : words_to mask ≤ length m₀) (z : m₀ ≡ replicate (length m₀) 0)
    (xs ys : List Order) (p : Bool) (e : p ≡ pass_of Buy l mask 0 m₀ xs) where
  all-fresh : apart (low_bits mask xs ++ low_bits mask ys) ≡ (fresh m₀ (low_bits mask xs) && fresh (marked m₀ (low_bits mask xs)) (low_bits mask ys))
  all-fresh = both_fresh m₀ (low_bits mask xs) (low_bits mask ys) z (bits_inside mask (length m₀) xs h) (bits_inside mask (length m₀) ys h)

  first_is : p ≡ (side_sound Buy l xs && fresh m₀ (low_bits mask xs))
  first_is = e ∙ pass_is Buy l mask k.given_small m₀ xs

  pub both_stop : not p ≡ true → false ≡ sides_by mask l xs ys
  unfolding sides_by
  both_stop f =
      rw all-fresh (stop_by (side_sound Buy l xs) (fresh m₀ (low_bits mask xs)) (side_sound Sell l ys) _ (sym first_is ∙ not-true p f))

  pub both_end : (m' : List ℕ) (q : Bool) → m' ≡ cond p (marked m₀ (low_bits mask xs)) m' → not p ≡ false → q ≡ pass_of Sell l mask 0 m' ys →
      q ≡ sides_by mask l xs ys
  unfolding sides_by
  both_end m' q d f g =
      let t : p ≡ true = not-false p f in
      g ∙ pass_is Sell l mask k.given_small m' ys ∙ rw (all-fresh, rw t at d)
      (end_by_lem (side_sound Buy l xs) (fresh m₀ (low_bits mask xs)) (side_sound Sell l ys) _ (sym first_is ∙ t))

-- by the mask that the tests choose: where the lesser two are refused, the medium one for so few numbers given, else the largest
module _ (l : Limits) (live : ℕ) (xs ys : List Order) (r : Bool) (tiny : (leb l.given 1023 || leb live 16) ≡ false) (small : (leb l.given 4095 || leb live 48) ≡ false) where
  pub by_medium : l.given ≤ 16383 → r ≡ sides_by 16383 l xs ys → r ≡ sides_by (least_mask l.given live) l xs ys
  by_medium h e = rw (tiny, small, le-leb l.given 16383 h) e

  pub by_largest : 16383 < l.given → r ≡ sides_by 65535 l xs ys → r ≡ sides_by (least_mask l.given live) l xs ys
  by_largest h e = rw (tiny, small, lt-leb l.given 16383 h) e
