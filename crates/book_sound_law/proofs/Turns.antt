-- Each return of the functions of a pass is what the definition says, and each turn of its loop keeps what the loop needs.
use Prim.Native.Nat.{ℕ, ◌+◌, ◌-◌, ◌*◌, ◌≤◌, ◌<◌}
use native.Mathlib.Omega.{arith}
use mathlib.Core.Bool.{Bool, true, false, ◌&&◌, not}
use mathlib.Core.Path.{◌≡◌, refl, sym, ◌∙◌}
use mathlib.Core.List.{List, ◌∷◌}
use lib.Bits.{bit_and, and_le_r}
use lib.ListN.{length, drop}
use borrow.Author.Tests.{not-true, not-false, lt-ltb, le-ltb}
use Rattle.terms.specs.declared.Side.{Side}
use Rattle.terms.specs.declared.Side.TheVariants.{Buy, Sell}
use Rattle.terms.specs.declared.Order.{Order}
use Rattle.terms.specs.Sizes.{lots_most}
use Rattle.terms.specs.Truth.{between}
use Rattle.terms.specs.Numbers.{is_lots, on_tick}
use Rattle.terms.proofs.Logic.{same, split, join, no_both, between_facts, between_make}
use Rattle.tables.specs.Tables.{order_at, decode}
use Rattle.tables.proofs.Slots.{decode_read, decode-end}
use Rattle.book_sound_law.specs.declared.Limits.{Limits}
use Rattle.book_sound_law.specs.Sound.{OrderFits}
use Rattle.book_sound_law.specs.code.Marks.{word_for, words_to, has_mark, with_mark, marked}
use Rattle.terms.specs.code.Ticks.{scale}
use Rattle.book_sound_law.specs.code.Pass.{band_of, fine, Keyed, key_step, key_of, low_bits, pass_of}
use Rattle.book_sound_law.proofs.Facts.{order-fits, order_made}
use Rattle.book_sound_law.proofs.Keys.{keyed}

-- ---- an order

-- a test that cannot come out true is false
pub refuted : (b : Bool) → (b ≡ true → ⊥) → false ≡ b
refuted true f = absurd (f refl)
refuted false f = refl

module _ (l : Limits) (o : Order) where
  fits : fine l o ≡ true → OrderFits l.given l.tick (band_of l) o
  fits e = order-fits l.given l.tick (band_of l) o e

  -- lots, number and price are within their bounds, as the code tests it
  abbrev bounded : Bool
  bounded = (is_lots o.lots && between 1 o.number l.given) && between l.low o.price l.high

  bounds_made : fine l o ≡ true → bounded ≡ true
  bounds_made h =
      let w = fits h in
      let k = keyed l o h in
      join (is_lots o.lots && between 1 o.number l.given) (between l.low o.price l.high)
      (join (is_lots o.lots) (between 1 o.number l.given)
      (between_make 1 o.lots lots_most w.lots_some w.lots_small)
      (between_make 1 o.number l.given w.number_some w.number_given))
      (between_make l.low o.price l.high k.above k.below)

  pub fine_bounds : not bounded ≡ true → false ≡ fine l o
  fine_bounds f = refuted (fine l o) (λ h. no_both bounded (bounds_made h) (not-true _ f))

  module _ (f : not bounded ≡ false) where
    outer : ((is_lots o.lots && between 1 o.number l.given) ≡ true) × (between l.low o.price l.high ≡ true)
    outer = split _ _ (not-false bounded f)

    -- a price in the band is small enough for the factor
    pub bounded_small : l.high < scale → o.price < scale
    bounded_small h = omega (arith, (between_facts l.low o.price l.high outer.1).1)

    -- once the bounds hold, only the tick is left to decide
    pub fine_tick : (r : Bool) → r ≡ on_tick l.tick o.price → r ≡ fine l o
    fine_tick r t =
        let inner = split (is_lots o.lots) (between 1 o.number l.given) outer.0 in
        let size = between_facts 1 o.lots lots_most inner.0 in
        let n = between_facts 1 o.number l.given inner.1 in
        same r (fine l o)
        (λ h. order_made l.given l.tick (band_of l) o
        (record {
          number_some = n.0;
          number_given = n.1;
          lots_some = size.0;
          lots_small = size.1;
          ticked = sym t ∙ h;
          banded = outer.1;
        }))
        (λ h. t ∙ (fits h).ticked)

  pub fine_keyed : (k : Bool) → k ≡ fine l o → not k ≡ false → Keyed l o
  fine_keyed k e f = keyed l o (sym e ∙ not-false k f)

pub key_buy : (s : Side) (l : Limits) (o : Order) → s ≡ Buy → (l.high - o.price) * key_step + o.number ≡ key_of s l o
key_buy s l o e = rw e

pub key_sell : (s : Side) (l : Limits) (o : Order) → s ≡ Sell → (o.price - l.low) * key_step + o.number ≡ key_of s l o
key_sell s l o e = rw e

-- ---- a turn of the pass

pub inside : (x mask : ℕ) (m m₀ : List ℕ) → words_to mask ≤ length m₀ → length m ≡ length m₀ → word_for (bit_and x mask) < length m
inside x mask m m₀ p q = omega (arith, and_le_r x mask)

bits_read : (mask n : ℕ) (t : List ℕ) (i : ℕ) (o : Order) → i < n → o ≡ order_at t i →
    low_bits mask (drop i (decode n t)) ≡ bit_and o.number mask ∷ low_bits mask (drop (i + 1) (decode n t))
unfolding low_bits
bits_read mask n t i o h e = rw (decode_read n t i o h e)

module _ (mask : ℕ) (ys : List ℕ) (n : ℕ) (t m₀ m : List ℕ) (i : ℕ) (e : marked m₀ ys ≡ marked m (low_bits mask (drop i (decode n t)))) where
  pub marks_all : n ≤ i → m ≡ marked m₀ ys
  unfolding marked low_bits
  marks_all h = sym (rw (decode-end n t i h) at e)

  pub marks_turn : (o : Order) → o ≡ order_at t i → i < n → (u : List ℕ) → u ≡ with_mark m (bit_and o.number mask) →
      marked m₀ ys ≡ marked u (low_bits mask (drop (i + 1) (decode n t)))
  unfolding marked
  marks_turn o r h u y = rw y (rw (bits_read mask n t i o h r) at e)

module _ (s : Side) (l : Limits) (mask : ℕ) (os : List Order) (n : ℕ) (t m₀ m : List ℕ) (i : ℕ) (key₀ key : ℕ)
    (e : pass_of s l mask key₀ m₀ os ≡ pass_of s l mask key m (drop i (decode n t))) where
  pub pass_all : n ≤ i → true ≡ pass_of s l mask key₀ m₀ os
  unfolding pass_of
  pass_all h = sym (rw (decode-end n t i h) at e)

  module _ (o : Order) (r : o ≡ order_at t i) (h : i < n) (k : Bool) (f : k ≡ fine l o) where
    pub pass_bad : not k ≡ true → false ≡ pass_of s l mask key₀ m₀ os
    unfolding pass_of
    pass_bad g = sym (rw (← f, not-true k g) at (rw (decode_read n t i o h r) at e))

    module _ (g : not k ≡ false) (next : ℕ) (d : next ≡ key_of s l o) where
      pub pass_unsorted : next ≤ key → false ≡ pass_of s l mask key₀ m₀ os
      unfolding pass_of
      pass_unsorted w = sym (rw (← f, ← d, not-false k g, le-ltb key next w) at (rw (decode_read n t i o h r) at e))

      module _ (w : key < next) (v : Bool) (a : v ≡ has_mark m (bit_and o.number mask)) where
        pub pass-seen : v ≡ true → false ≡ pass_of s l mask key₀ m₀ os
        unfolding pass_of
        pass-seen z = sym (rw (← f, ← d, not-false k g, lt-ltb key next w, ← a, z) at (rw (decode_read n t i o h r) at e))

        pub pass-turn : v ≡ false → (u : List ℕ) → u ≡ with_mark m (bit_and o.number mask) →
            pass_of s l mask key₀ m₀ os ≡ pass_of s l mask next u (drop (i + 1) (decode n t))
        unfolding pass_of
        pass-turn z u y = rw (← f, ← d, not-false k g, lt-ltb key next w, ← a, z, ← y) at (rw (decode_read n t i o h r) at e)
