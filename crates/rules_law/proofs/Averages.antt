-- The weighted average to the nearest tick is the one that document 01 means, and computing it overflows nowhere.
use Prim.Native.Nat.{ℕ, ◌+◌, ◌*◌, ◌/◌, ◌≤◌, ◌<◌}
use native.Mathlib.Omega.{arith}
use native.Mathlib.Nat.{mul-le-mul, mul-le-mul_left, mul_assoc, mul_comm, mul-mod_left, add-mul, one-mul, le_trans, div-mul-le_self, lt-div-mul-add, div-eq_of_lt-le}
use mathlib.Core.Path.{◌≡◌, sym, ap}
use Rattle.rules_law.specs.Close.{nearest}
use Rattle.rules_law.specs.Meaning.{IsNearest}

-- q ticks for each lot come to q times lots×tick
units : (q tick lots : ℕ) → q * tick * lots ≡ q * (lots * tick)
units q tick lots = omega (arith, mul_assoc q tick lots, ap (λ (n : ℕ). q * n) (mul_comm tick lots))

twice : (q u : ℕ) → 2 * (q * u) ≡ q * (2 * u)
twice q u = omega (arith, sym (mul_assoc q 2 u), mul_comm q 2, mul_assoc 2 q u)

pub nearest_is : (tick value lots : ℕ) → 1 ≤ tick → 1 ≤ lots → IsNearest tick value lots (nearest tick value lots)
unfolding nearest
nearest_is tick value lots t l =
    let u : ℕ = lots * tick in
    let n : ℕ = 2 * value + u in
    let q : ℕ = n / (2 * u) in
    let some : 1 * 1 ≤ u = mul-le-mul l t in
    let up : 0 < 2 * u = omega arith in
    record {
      multiple = mul-mod_left q tick;
      not_above = omega (arith, units q tick lots, twice q u, div-mul-le_self n (2 * u));
      not_below = omega (arith, units q tick lots, twice q u, lt-div-mul-add {a = n} {b = 2 * u} up);
      only = λ k a b. ap (λ (x : ℕ). x * tick) (sym (div-eq_of_lt-le {k = k} (2 * u) {m = n}
          (omega (arith, units k tick lots, twice k u))
          (omega (arith, units k tick lots, twice k u, add-mul k 1 (2 * u), one-mul (2 * u)))));
    }

-- the average that the code computes is at most twice the value plus one unit, so it fits where these do
pub nearest-small : (value unit tick : ℕ) → tick ≤ unit → (2 * value + unit) / (2 * unit) * tick ≤ 2 * value + unit
nearest-small value unit tick h =
    le_trans (mul-le-mul_left ((2 * value + unit) / (2 * unit)) (omega arith)) (div-mul-le_self (2 * value + unit) (2 * unit))
