-- Numbers whose low bits are distinct are distinct; and the low sixteen bits of an order number are the whole number.
use Prim.Native.Nat.{ℕ, ◌≤◌}
use native.Mathlib.Omega.{arith}
use native.Mathlib.Nat.{mod-eq_of_lt}
use mathlib.Core.Bool.{Bool, true, false, ◌&&◌, ◌||◌, not}
use mathlib.Core.Path.{◌≡◌, refl, sym, ap, ◌∙◌}
use mathlib.Core.List.{List, [], ◌∷◌, ◌++◌}
use lib.Dec.{eqb}
use lib.Bits.{bit_and, and_mask}
use borrow.Author.Tests.{eq-eqb, eqb-true}
use Rattle.terms.specs.declared.Side.{Side}
use Rattle.terms.specs.declared.Side.TheVariants.{Buy, Sell}
use Rattle.terms.specs.declared.Order.{Order}
use Rattle.terms.specs.Sizes.{numbers_most}
use Rattle.terms.specs.Truth.{◌⊓◌}
use Rattle.terms.proofs.Logic.{split, make}
use Rattle.book_law.specs.Priority.{rests, sorted}
use Rattle.book_law.specs.Over.{Each}
use Rattle.book_law.proofs.Over.{each_map, each_append}
use Rattle.book_sound_law.specs.declared.Limits.{Limits}
use Rattle.book_sound_law.specs.Sound.{each_sound, distinct, OrderFits}
use Rattle.book_sound_law.specs.code.Marks.{is_in, apart}
use Rattle.book_sound_law.specs.code.Pass.{LimitsFit, band_of, low_bits, side_sound, sides_sound, sides_by}
use Rattle.book_sound_law.proofs.Facts.{each_fits}

-- ---- distinct low bits belong to distinct numbers

bits_append : (mask : ℕ) (xs ys : List Order) → low_bits mask (xs ++ ys) ≡ low_bits mask xs ++ low_bits mask ys
unfolding low_bits
bits_append mask [] ys = refl
bits_append mask (o ∷ os) ys = ap (λ (b : List ℕ). bit_and o.number mask ∷ b) (bits_append mask os ys)

or_right : (c r : Bool) → r ≡ true → (c || r) ≡ true
or_right true r e = refl
or_right false r e = e

in_by : (mask x n : ℕ) (c r r' : Bool) → eqb n x ≡ c → (c || r) ≡ true → (r ≡ true → r' ≡ true) →
    (eqb (bit_and n mask) (bit_and x mask) || r') ≡ true
in_by mask x n true r r' f g ih = rw (eq-eqb (bit_and n mask) (bit_and x mask) (ap (λ (z : ℕ). bit_and z mask) (eqb-true n x f)))
in_by mask x n false r r' f g ih = or_right (eqb (bit_and n mask) (bit_and x mask)) r' (ih g)

bits_in : (mask x : ℕ) (os : List Order) → rests x os ≡ true → is_in (bit_and x mask) (low_bits mask os) ≡ true
unfolding is_in rests low_bits
bits_in mask x [] e = e
bits_in mask x (o ∷ os) e =
    in_by mask x o.number (eqb o.number x) (rests x os) (is_in (bit_and x mask) (low_bits mask os)) refl e (bits_in mask x os)

not_in : (c d : Bool) → (c ≡ true → d ≡ true) → not d ≡ true → not c ≡ true
not_in true d f e = rw (f refl) at e
not_in false d f e = refl

bits_distinct : (mask : ℕ) (os : List Order) → apart (low_bits mask os) ≡ true → distinct os ≡ true
unfolding apart distinct low_bits
bits_distinct mask [] e = refl
bits_distinct mask (o ∷ os) e =
    let p = split (not (is_in (bit_and o.number mask) (low_bits mask os))) (apart (low_bits mask os)) e in
    make (not_in (rests o.number os) (is_in (bit_and o.number mask) (low_bits mask os)) (bits_in mask o.number os) p.0)
    (bits_distinct mask os p.1)

lift : (a c d d' : Bool) → (d ≡ true → d' ≡ true) → (a && (c && d)) ≡ true → (a && (c && d')) ≡ true
lift true true d d' f e = f e
lift true false d d' f e = e
lift false c d d' f e = e

pub no_clash : (mask : ℕ) (l : Limits) (xs ys : List Order) (r : Bool) → r ≡ sides_by mask l xs ys → r ≡ true → true ≡ sides_sound l xs ys
unfolding sides_by sides_sound
no_clash mask l xs ys r e f =
    sym (lift (side_sound Buy l xs) (side_sound Sell l ys) _ _ (λ a. bits_distinct mask (xs ++ ys) (rw (bits_append mask xs ys) a)) (sym e ∙ f))

-- ---- sixteen bits hold a whole order number

module _ (given : ℕ) (h : given ≤ numbers_most) where
  abbrev Small : Order → Type 0
  Small o = o.number ≤ given

  whole : (n : ℕ) → n ≤ given → bit_and n 65535 ≡ n
  whole n k = and_mask n 16 ∙ mod-eq_of_lt (omega arith)

  whole_in_lem : (x : ℕ) (os : List Order) → Each Small os → is_in x (low_bits 65535 os) ≡ rests x os
  unfolding is_in rests low_bits
  whole_in_lem x [] e = refl
  whole_in_lem x (o ∷ os) e = rw (whole o.number e.0, whole_in_lem x os e.1)

  whole-distinct : (os : List Order) → Each Small os → apart (low_bits 65535 os) ≡ distinct os
  unfolding apart distinct low_bits ◌⊓◌
  whole-distinct [] e = refl
  whole-distinct (o ∷ os) e = rw (whole o.number e.0, whole_in_lem o.number os e.1, whole-distinct os e.1)

keep : (a c d d' : Bool) → (a ≡ true → c ≡ true → d ≡ d') → (a && (c && d)) ≡ (a && (c && d'))
keep true true d d' f = f refl refl
keep true false d d' f = refl
keep false c d d' f = refl

pub all-numbers : (l : Limits) (xs ys : List Order) (r : Bool) → LimitsFit l → r ≡ sides_by 65535 l xs ys → r ≡ sides_sound l xs ys
unfolding sides_by sides_sound
all-numbers l xs ys r k e =
    e ∙ keep (side_sound Buy l xs) (side_sound Sell l ys) _ _
    (λ f g. rw (← bits_append 65535 xs ys)
    (whole-distinct l.given k.given_small (xs ++ ys) (each_append (Small l.given k.given_small) xs ys (small Buy xs f) (small Sell ys g))))
  where
    small : (s : Side) (os : List Order) → side_sound s l os ≡ true → Each (λ o. o.number ≤ l.given) os
    small s os f =
        each_map (OrderFits l.given l.tick (band_of l)) (λ o. o.number ≤ l.given) (λ o h. h.number_given) os
        (each_fits l.given l.tick (band_of l) os (split (each_sound l.given l.tick (band_of l) os) (sorted s os) f).0)
