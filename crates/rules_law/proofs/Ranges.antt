-- The range on both sides of the reference; and the code's tests of range and mark, which compare whole paise, for any price and without
-- an overflow.
use Prim.Native.Nat.{ℕ, ◌+◌, ◌-◌, ◌*◌, ◌/◌, ◌≤◌}
use native.Mathlib.Omega.{arith}
use native.Mathlib.Nat.{mul-le-mul, mul-le-mul_right}
use mathlib.Core.Path.{◌≡◌, ap}
use mathlib.Core.Bool.{true}
use borrow.Author.Tests.{leb-true, ltb-true, le-leb, lt-ltb}
use lib.Dec.{leb, ltb}
use Rattle.terms.specs.declared.Side.TheVariants.{Buy, Sell}
use Rattle.terms.proofs.Logic.{same, between_facts, between_make}
use Rattle.rules_law.specs.declared.Range.{Range}
use Rattle.rules_law.specs.Slabs.{in_band}
use Rattle.rules_law.specs.Reference.{in_range, RangeFits, reference_most, reach_of, range_low, range_high, range_ends}
use Rattle.rules_law.specs.Meaning.{AreEnds}
use Rattle.rules_law.specs.Mark.{beyond_mark, mark_most}

-- ---- the range

-- "the range on both sides of the reference price": k above it, or k below, is in range just where 200×k is at most percent×reference
pub range_up : (r : Range) (k : ℕ) → in_range r (r.reference + k) ≡ leb (200 * k) (r.percent * r.reference)
unfolding in_range
range_up r k =
    let e : r.reference + k - r.reference + (r.reference - (r.reference + k)) ≡ k = omega arith in
    ap (λ (d : ℕ). leb (200 * d) (r.percent * r.reference)) e

pub range_down : (r : Range) (k : ℕ) → k ≤ r.reference → in_range r (r.reference - k) ≡ leb (200 * k) (r.percent * r.reference)
unfolding in_range
range_down r k h =
    let e : r.reference - k - r.reference + (r.reference - (r.reference - k)) ≡ k = omega arith in
    ap (λ (d : ℕ). leb (200 * d) (r.percent * r.reference)) e

-- a whole number k is at most n÷200, rounded down, exactly where 200×k is at most n
reach : (k n : ℕ) → leb k (n / 200) ≡ leb (200 * k) n
reach k n =
    same (leb k (n / 200)) (leb (200 * k) n)
    (λ e. le-leb (200 * k) n (omega (arith, leb-true k (n / 200) e)))
    (λ e. le-leb k (n / 200) (omega (arith, leb-true (200 * k) n e)))

-- so a price is in range exactly where its distance from the reference is at most the reach
pub range_reach : (r : Range) (x d k : ℕ) → d ≡ x - r.reference + (r.reference - x) → k ≡ reach_of r → leb d k ≡ in_range r x
unfolding in_range
range_reach r x d k e f = rw (e, f) (reach (x - r.reference + (r.reference - x)) (r.percent * r.reference))

pub range_product : (r : Range) → RangeFits r → r.percent * r.reference ≤ 100 * reference_most
range_product r f = mul-le-mul f.percent_small f.reference_small

-- a price in range is not far above the reference, so the products for the mark do not overflow
pub in_range-small : (r : Range) (x : ℕ) → RangeFits r → in_range r x ≡ true → x ≤ mark_most
unfolding in_range
in_range-small r x f e = omega (arith, range_product r f, leb-true (200 * (x - r.reference + (r.reference - x))) (r.percent * r.reference) e)

-- ---- the ends of the range

-- a price in range is at most the reach away from the reference, on either side
near : (r : Range) (x : ℕ) → in_range r x ≡ true → (r.reference ≤ x + reach_of r) × (x ≤ r.reference + reach_of r)
unfolding in_range
near r x e =
    let h : 200 * (x - r.reference + (r.reference - x)) ≤ r.percent * r.reference = leb-true (200 * (x - r.reference + (r.reference - x))) (r.percent * r.reference) e in
    (omega arith, omega arith)

nearly : (r : Range) (x : ℕ) → r.reference ≤ x + reach_of r → x ≤ r.reference + reach_of r → in_range r x ≡ true
unfolding in_range
nearly r x low high = le-leb (200 * (x - r.reference + (r.reference - x))) (r.percent * r.reference) (omega arith)

-- a price is in range exactly where it lies between the ends
pub range-between : (r : Range) (x : ℕ) → in_range r x ≡ in_band (range_ends r) x
unfolding range_low range_high
range-between r x =
    same (in_range r x) (in_band (range_ends r) x)
    (λ e. between_make (range_low r) x (range_high r) (omega (arith, near r x e)) (omega (arith, near r x e)))
    (λ e. nearly r x (omega (arith, between_facts (range_low r) x (range_high r) e)) (omega (arith, between_facts (range_low r) x (range_high r) e)))

pub in_ends : (r : Range) (x : ℕ) → in_range r x ≡ true → (range_low r ≤ x) × (x ≤ range_high r)
in_ends r x e = between_facts (range_low r) x (range_high r) (rw (range-between r x) at e)

pub ends_in : (r : Range) (x : ℕ) → range_low r ≤ x → x ≤ range_high r → in_range r x ≡ true
ends_in r x low high = rw (range-between r x) (between_make (range_low r) x (range_high r) low high)

-- and the ends are the least and the greatest price in range
pub are_ends : (r : Range) → AreEnds r (range_low r) (range_high r)
unfolding range_low range_high
are_ends r =
    record {
      low_in = nearly r (range_low r) (omega arith) (omega arith);
      high_in = nearly r (range_high r) (omega arith) (omega arith);
      least = λ x e. (in_ends r x e).0;
      greatest = λ x e. (in_ends r x e).1;
    }

-- what the code needs: the reach is at most the reference, so that the lower end is no less than 0
pub reach_small : (r : Range) → RangeFits r → reach_of r ≤ r.reference
reach_small r f = omega (arith, mul-le-mul_right r.reference f.percent_small)

-- ---- the mark

pub mark_buy : (m x : ℕ) → ltb (102 * m / 100) x ≡ beyond_mark Buy m x
mark_buy m x =
    same (ltb (102 * m / 100) x) (ltb (102 * m) (100 * x))
    (λ e. lt-ltb (102 * m) (100 * x) (omega (arith, ltb-true (102 * m / 100) x e)))
    (λ e. lt-ltb (102 * m / 100) x (omega (arith, ltb-true (102 * m) (100 * x) e)))

pub mark_sell : (m x : ℕ) → ltb x ((98 * m + 99) / 100) ≡ beyond_mark Sell m x
mark_sell m x =
    same (ltb x ((98 * m + 99) / 100)) (ltb (100 * x) (98 * m))
    (λ e. lt-ltb (100 * x) (98 * m) (omega (arith, ltb-true x ((98 * m + 99) / 100) e)))
    (λ e. lt-ltb x ((98 * m + 99) / 100) (omega (arith, ltb-true (100 * x) (98 * m) e)))
