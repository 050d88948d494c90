-- A sound book as facts: the tests give the facts, and the facts give the tests.
use Prim.Native.Nat.{ℕ, ◌≤◌, ◌<◌}
use native.Mathlib.Omega.{arith}
use borrow.Author.Tests.{leb-true, le-leb}
use mathlib.Core.Path.{◌≡◌, refl}
use mathlib.Core.Bool.{true}
use mathlib.Core.List.{List, [], ◌∷◌}
use lib.ListN.{length}
use Rattle.terms.specs.declared.Order.{Order}
use Rattle.terms.specs.declared.Band.{Band}
use Rattle.terms.specs.Sizes.{slots, lots_most}
use Rattle.terms.specs.Truth.{◌⊓◌}
use Rattle.terms.proofs.Logic.{both, make, between_facts, between_make}
use Rattle.rules_law.specs.Slabs.{in_band}
use Rattle.book_law.specs.Priority.{sorted}
use Rattle.book_law.specs.Matching.{part}
use Rattle.book_law.specs.Over.{Each, EachPrice}
use Rattle.book_law.proofs.Over.{each_map}
use Rattle.book_law.proofs.Priority.{Older}
use Rattle.book_sound_law.specs.Sound.{order_sound, each_sound, distinct, uncrossed, book_sound, OrderFits, BookFits}

-- ---- an order

module _ (given tick : ℕ) (b : Band) where
  pub order-fits : (o : Order) → order_sound given tick b o ≡ true → OrderFits given tick b o
  unfolding order_sound
  order-fits o h =
      let a = both h in
      let c = both a.0 in
      let d = both c.0 in
      let n = between_facts 1 o.number given d.0 in
      let l = between_facts 1 o.lots lots_most d.1 in
      record { number_some = n.0; number_given = n.1; lots_some = l.0; lots_small = l.1; ticked = c.1; banded = a.1 }

  pub order_made : (o : Order) → OrderFits given tick b o → order_sound given tick b o ≡ true
  unfolding order_sound
  order_made o f =
      make (make (make
      (between_make 1 o.number given f.number_some f.number_given)
      (between_make 1 o.lots lots_most f.lots_some f.lots_small))
      f.ticked)
      f.banded

  pub each_fits : (os : List Order) → each_sound given tick b os ≡ true → Each (OrderFits given tick b) os
  unfolding each_sound
  each_fits [] e = tt
  each_fits (o ∷ os) e = let q = both e in (order-fits o q.0, each_fits os q.1)

  pub each_made : (os : List Order) → Each (OrderFits given tick b) os → each_sound given tick b os ≡ true
  unfolding each_sound
  each_made [] h = refl
  each_made (o ∷ os) h = make (order_made o h.0) (each_made os h.1)

  -- a part of a sound order, of at least 1 lot, is sound
  pub part-fits : (o : Order) (k : ℕ) → 1 ≤ k → k ≤ o.lots → OrderFits given tick b o → OrderFits given tick b (part o k)
  part-fits o k h l f =
      record {
        number_some = f.number_some;
        number_given = f.number_given;
        lots_some = h;
        lots_small = omega (arith, f.lots_small);
        ticked = f.ticked;
        banded = f.banded;
      }

  -- a number above all given ones is above all numbers in the book
  pub each_older : (k : ℕ) (os : List Order) → given < k → Each (OrderFits given tick b) os → Older k os
  each_older k os h e = each_map (OrderFits given tick b) (λ o. o.number < k) (λ o f. omega (arith, f.number_given)) os e

  -- if the band begins above 0, every price in the book is positive
  pub each_positive : (os : List Order) → 1 ≤ b.low → Each (OrderFits given tick b) os → EachPrice (λ p. 1 ≤ p) os
  each_positive os h e =
      each_map (OrderFits given tick b) (λ o. 1 ≤ o.price) (λ o f. omega (arith, (between_facts b.low o.price b.high f.banded).0)) os e

-- sound orders stay sound when more numbers are given and the band is wider
pub each_wider : (g g' tick : ℕ) (b b' : Band) → g ≤ g' → ((x : ℕ) → in_band b x ≡ true → in_band b' x ≡ true) → (os : List Order) →
    Each (OrderFits g tick b) os → Each (OrderFits g' tick b') os
each_wider g g' tick b b' h k os e =
    each_map (OrderFits g tick b) (OrderFits g' tick b')
    (λ o f. record {
      number_some = f.number_some;
      number_given = omega (arith, f.number_given);
      lots_some = f.lots_some;
      lots_small = f.lots_small;
      ticked = f.ticked;
      banded = k o.price f.banded;
    })
    os e

-- ---- a book

module _ (given tick : ℕ) (b : Band) (buys sells : List Order) where
  pub book-fits : book_sound given tick b buys sells ≡ true → BookFits given tick b buys sells
  unfolding book_sound
  book-fits h =
      let p1 = both h in
      let p2 = both p1.0 in
      let p3 = both p2.0 in
      let p4 = both p3.0 in
      let p5 = both p4.0 in
      let p6 = both p5.0 in
      let p7 = both p6.0 in
      record {
        few_buys = leb-true (length buys) slots p7.0;
        few_sells = leb-true (length sells) slots p7.1;
        each_buy = p6.1;
        each_sell = p5.1;
        sorted_buys = p4.1;
        sorted_sells = p3.1;
        distinct_all = p2.1;
        apart = p1.1;
      }

  pub book_made : BookFits given tick b buys sells → book_sound given tick b buys sells ≡ true
  unfolding book_sound
  book_made f =
      make (make (make (make (make (make (make
      (le-leb (length buys) slots f.few_buys)
      (le-leb (length sells) slots f.few_sells))
      f.each_buy)
      f.each_sell)
      f.sorted_buys)
      f.sorted_sells)
      f.distinct_all)
      f.apart

-- a book with no orders is sound
pub empty_sound : (given tick : ℕ) (b : Band) → book_sound given tick b [] [] ≡ true
unfolding book_sound each_sound sorted distinct uncrossed ◌⊓◌
empty_sound given tick b = refl
