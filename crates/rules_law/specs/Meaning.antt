-- What document 01 means by its rounded numbers, said without the arithmetic that computes them. proofs/ shows that the definitions mean it.
use Rattle.std.specs.Prelude.{ℕ, ◌+◌, ◌-◌, ◌*◌, ◌%◌, ◌≤◌, ◌<◌, ◌≡◌, true}
use Rattle.rules_law.specs.declared.Range.{Range}
use Rattle.rules_law.specs.Reference.{in_range}

-- "the smallest tick multiple not below base×(100−p)/100"
pub record IsLow (base tick p low : ℕ) : Type 0 where
  pub multiple : low % tick ≡ 0
  pub reaches : base * (100 - p) ≤ low * 100
  pub least : (k : ℕ) → base * (100 - p) ≤ k * tick * 100 → low ≤ k * tick

-- "the greatest not above base×(100+p)/100"
pub record IsHigh (base tick p high : ℕ) : Type 0 where
  pub multiple : high % tick ≡ 0
  pub within : high * 100 ≤ base * (100 + p)
  pub greatest : (k : ℕ) → k * tick * 100 ≤ base * (100 + p) → k * tick ≤ high

-- value÷lots "to the nearest tick, halves up": the price is a multiple of the tick, at most half a tick above value÷lots and less than half
-- a tick below it; and no other multiple is
pub record IsNearest (tick value lots price : ℕ) : Type 0 where
  pub multiple : price % tick ≡ 0
  pub not_above : 2 * (price * lots) ≤ 2 * value + lots * tick
  pub not_below : 2 * value < 2 * (price * lots) + lots * tick
  pub only : (k : ℕ) → 2 * (k * tick * lots) ≤ 2 * value + lots * tick → 2 * value < 2 * (k * tick * lots) + lots * tick → k * tick ≡ price

-- the ends of the range: each is in range, and no price in range lies beyond them
pub record AreEnds (r : Range) (low high : ℕ) : Type 0 where
  pub low_in : in_range r low ≡ true
  pub high_in : in_range r high ≡ true
  pub least : (x : ℕ) → in_range r x ≡ true → low ≤ x
  pub greatest : (x : ℕ) → in_range r x ≡ true → x ≤ high
