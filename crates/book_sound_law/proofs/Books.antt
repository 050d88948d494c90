-- A book is sound exactly where the two best prices are apart and both passes succeed.
use Prim.Native.Nat.{ℕ, zero, suc, ◌≤◌, ◌<◌}
use native.Mathlib.Omega.{arith}
use mathlib.Core.Bool.{Bool, true, false, ◌&&◌, not}
use mathlib.Core.Path.{◌≡◌, refl, sym, ◌∙◌}
use mathlib.Core.List.{List, [], ◌∷◌, ◌++◌}
use lib.Dec.{ltb}
use lib.ListN.{length}
use borrow.Author.Tests.{not-true, not-false}
use Rattle.terms.specs.declared.Side.TheVariants.{Buy, Sell}
use Rattle.terms.specs.declared.Order.{Order}
use Rattle.terms.specs.declared.Band.{Band}
use Rattle.terms.specs.Sizes.{slots, numbers_most}
use Rattle.terms.proofs.Logic.{same, no_both, split, join}
use Rattle.tables.specs.Tables.{order_at, decode}
use Rattle.tables.proofs.Slots.{length-decode}
use Rattle.book_law.specs.Priority.{sorted}
use Rattle.book_sound_law.specs.declared.Limits.{Limits}
use Rattle.book_sound_law.specs.Sound.{each_sound, distinct, uncrossed, book_sound}
use Rattle.terms.specs.code.Ticks.{scale, Dividing}
use Rattle.tables.specs.Tables.{TableFor}
use Rattle.book_sound_law.specs.code.Pass.{limits_of, LimitsFit, sides_sound}
use Rattle.book_sound_law.proofs.Facts.{book-fits, book_made}
use Rattle.book_sound_law.proofs.Turns.{refuted}

none-across : (xs : List Order) → true ≡ uncrossed xs []
unfolding uncrossed
none-across [] = refl
none-across (x ∷ xs) = refl

module _ (nbuys nsells : ℕ) (t u : List ℕ) where
  pub no-buys : nbuys ≡ 0 → true ≡ uncrossed (decode nbuys t) (decode nsells u)
  unfolding decode uncrossed
  no-buys e = rw e

  pub no-sells : nsells ≡ 0 → true ≡ uncrossed (decode nbuys t) (decode nsells u)
  unfolding decode
  no-sells e = rw e (none-across (decode nbuys t))

pub bests : (nbuys nsells : ℕ) (t u : List ℕ) → (nbuys ≡ 0 → ⊥) → (nsells ≡ 0 → ⊥) → (b s : Order) → b ≡ order_at t 0 → s ≡ order_at u 0 →
    ltb b.price s.price ≡ uncrossed (decode nbuys t) (decode nsells u)
unfolding decode uncrossed
bests zero nsells t u f g b s e d = absurd (f refl)
bests (suc nbuys) zero t u f g b s e d = absurd (g refl)
bests (suc nbuys) (suc nsells) t u f g b s e d = rw (e, d)

module _ (given tick : ℕ) (band : Band) (xs ys : List Order) where
  pub book-crossed : (v : Bool) → v ≡ uncrossed xs ys → not v ≡ true → false ≡ book_sound given tick band xs ys
  book-crossed v e f =
      refuted (book_sound given tick band xs ys) (λ h. no_both v (e ∙ (book-fits given tick band xs ys h).apart) (not-true v f))

  book_is : (v : Bool) → v ≡ uncrossed xs ys → not v ≡ false → length xs ≤ slots → length ys ≤ slots → (l : Limits) →
      l ≡ limits_of given tick band → (r : Bool) → r ≡ sides_sound l xs ys → r ≡ book_sound given tick band xs ys
  unfolding sides_sound
  book_is v e f few_buys few_sells l d r g =
      let each : List Order → Bool = each_sound given tick band in
      let r-is : r ≡ ((each xs && sorted Buy xs) && ((each ys && sorted Sell ys) && distinct (xs ++ ys))) = rw d at g in
      same r (book_sound given tick band xs ys)
      (λ h. let p = split (each xs && sorted Buy xs) _ (sym r-is ∙ h) in
      let buys = split (each xs) (sorted Buy xs) p.0 in
      let q = split (each ys && sorted Sell ys) (distinct (xs ++ ys)) p.1 in
      let sells = split (each ys) (sorted Sell ys) q.0 in
      book_made given tick band xs ys
      (record {
        few_buys = few_buys;
        few_sells = few_sells;
        each_buy = buys.0;
        each_sell = sells.0;
        sorted_buys = buys.1;
        sorted_sells = sells.1;
        distinct_all = q.1;
        apart = sym e ∙ not-false v f;
      }))
      (λ h. let k = book-fits given tick band xs ys h in
      r-is ∙ join _ _ (join _ _ k.each_buy k.sorted_buys) (join _ _ (join _ _ k.each_sell k.sorted_sells) k.distinct_all))

pub limits_fit : (given tick factor : ℕ) (band : Band) → given ≤ numbers_most → Dividing tick factor → band.high < scale → (l : Limits) →
    l ≡ limits_of given tick band → LimitsFit l
limits_fit given tick factor band g d h l e =
    rw e
    (record { given_small = g; dividing = record { tick_some = d.tick_some; tick_small = d.tick_small; factor_is = refl }; high_small = h })

pub tables_are : (given tick : ℕ) (band : Band) (nbuys nsells : ℕ) (t u : List ℕ) → TableFor nbuys t → TableFor nsells u → (v : Bool) →
    v ≡ uncrossed (decode nbuys t) (decode nsells u) → not v ≡ false → (l : Limits) → l ≡ limits_of given tick band → (r : Bool) →
    r ≡ sides_sound l (decode nbuys t) (decode nsells u) → r ≡ book_sound given tick band (decode nbuys t) (decode nsells u)
tables_are given tick band nbuys nsells t u a b v e f l d r g =
    book_is given tick band (decode nbuys t) (decode nsells u) v e f
    (omega (arith, length-decode nbuys t, a.few)) (omega (arith, length-decode nsells u, b.few)) l d r g
