-- The mark is measured from the first trade: what is within it, and what lies beyond it. All follows from `beyond_mark` of each side.
use Prim.Native.Nat.{ℕ, ◌≤◌, ◌*◌}
use native.Mathlib.Omega.{arith}
use borrow.Author.Tests.{ltb-true, ltb-false, lt-ltb, le-ltb, eqb-true, ne_eqb, not-true}
use mathlib.Core.Path.{◌≡◌, refl}
use mathlib.Core.Bool.{Bool, true, false, ◌&&◌, not}
use mathlib.Core.List.{List, [], ◌∷◌}
use lib.Dec.{eqb}
use Rattle.terms.specs.declared.Side.{Side}
use Rattle.terms.specs.declared.Side.TheVariants.{Buy, Sell}
use Rattle.terms.specs.declared.Kind.{Kind}
use Rattle.terms.specs.declared.Kind.TheVariants.{Limit, Market}
use Rattle.terms.specs.declared.Order.{Order}
use Rattle.terms.proofs.Logic.{cases, split}
use Rattle.rules_law.specs.Mark.{beyond_mark}
use Rattle.book_law.specs.Priority.{other_side, better}
use Rattle.book_law.specs.Matching.{beyond, first_after}

-- a price is within its own mark
pub own-mark : (s : Side) (p : ℕ) → beyond_mark s p p ≡ false
own-mark Buy p = le-ltb (102 * p) (100 * p) (omega arith)
own-mark Sell p = le-ltb (100 * p) (98 * p) (omega arith)

-- a price within the mark does not reach a counter price that lies beyond it
pub mark-short : (s : Side) (m p q : ℕ) → beyond_mark s m p ≡ false → beyond_mark s m q ≡ true → better (other_side s) p q ≡ true
mark-short Buy m p q e f = lt-ltb p q (omega (arith, ltb-false (102 * m) (100 * p) e, ltb-true (102 * m) (100 * q) f))
mark-short Sell m p q e f = lt-ltb q p (omega (arith, ltb-false (100 * p) (98 * m) e, ltb-true (100 * q) (98 * m) f))

and_none : (a b : Bool) → b ≡ false → (a && b) ≡ false
and_none true b e = e
and_none false b e = refl

-- a price at which the order trades is within its mark after that trade
pub near_next : (s : Side) (kind : Kind) (first p : ℕ) → beyond s kind first p ≡ false → beyond s kind (first_after first p) p ≡ false
near_next s (Limit l) first p e = refl
near_next s Market first p e =
    cases (eqb first 0)
    (λ z. rw z (and_none (not (eqb p 0)) (beyond_mark s p p) (own-mark s p)))
    (λ z. rw z e)

-- before its first trade no price is beyond the mark
pub none_yet : (s : Side) (kind : Kind) (p : ℕ) → beyond s kind 0 p ≡ false
none_yet s (Limit l) p = refl
none_yet s Market p = refl

-- after its first trade, a price that is not `beyond` is within the mark of that trade
pub near_mark : (s : Side) (first p : ℕ) → 1 ≤ first → beyond s Market first p ≡ false → beyond_mark s first p ≡ false
near_mark s first p h e = rw (ne_eqb first 0 (λ z. omega arith)) at e

-- the same for `beyond`: a price that is not beyond does not reach one that is
pub near_short : (s : Side) (first p q : ℕ) → beyond s Market first p ≡ false → beyond s Market first q ≡ true →
    better (other_side s) p q ≡ true
near_short s first p q e f =
    let b = split (not (eqb first 0)) (beyond_mark s first q) f in
    let z : eqb first 0 ≡ false = not-true _ b.0 in
    mark-short s first p q (rw z at e) b.1

-- ---- the price of the first trade, over a run of fills

-- the price of the first trade, once these fills are made; `first` is what it was before them
unfoldable pub first_of : ℕ → List Order → ℕ
first_of first [] = first
first_of first (f ∷ fs) = first_of (first_after first f.price) fs

-- once there is a first trade, its price stays
pub first_stays : (first : ℕ) (fs : List Order) → 1 ≤ first → first_of first fs ≡ first
unfolding first_of
first_stays first [] h = refl
first_stays first (f ∷ fs) h =
    cases (eqb first 0)
    (λ z. absurd (let y : first ≡ 0 = eqb-true first 0 z in omega arith))
    (λ z. rw z (first_stays first fs h))
