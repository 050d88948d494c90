-- The ends of a band are those that document 01 means; both are inside it, and so is the base; the band of a greater percent contains
-- that of a smaller one.
use Prim.Native.Nat.{ℕ, zero, suc, ◌+◌, ◌-◌, ◌*◌, ◌/◌, ◌%◌, ◌≤◌, ◌<◌}
use mathlib.Core.Path.{◌≡◌}
use mathlib.Core.Bool.{true, false}
use native.Mathlib.Omega.{arith}
use native.Mathlib.Nat.{lt-div-mul-add, div-lt_iff_lt-mul, div-mul-le_self, le-div_iff_mul-le, mul-le-mul, mul-le-mul_left, mul-le-mul_right, mul_assoc, mul_comm, mul-mod_left, add-mul, one-mul, sub-le, le_trans, div-zero, div-add-mod'}
use borrow.Author.Tests.{eqb-true, lt-leb}
use lib.Dec.{leb}
use Rattle.terms.specs.declared.Band.{Band}
use Rattle.terms.specs.Numbers.{on_tick}
use Rattle.terms.proofs.Logic.{cases, between_facts, between_make}
use Rattle.rules_law.specs.Slabs.{low_at, high_at, band_at, band_most, in_band, Priced}
use Rattle.rules_law.specs.Meaning.{IsLow, IsHigh}

-- ---- the ends are what document 01 means

hundred : (q t : ℕ) → q * t * 100 ≡ q * (100 * t)
hundred q t = omega (arith, mul_assoc q t 100, mul_comm t 100)

pub low_is : (base tick p : ℕ) → 1 ≤ tick → IsLow base tick p (low_at base tick p)
unfolding low_at
low_is base tick p pos =
    let n : ℕ = base * (100 - p) in
    let u : ℕ = 100 * tick in
    let q : ℕ = (n + (u - 1)) / u in
    let up : 0 < u = omega arith in
    record {
      multiple = mul-mod_left q tick;
      reaches = omega (arith, lt-div-mul-add {a = n + (u - 1)} {b = u} up, hundred q tick);
      least = λ k h. mul-le-mul_right tick
          (let lt : q < k + 1 = (div-lt_iff_lt-mul up).1 (omega (arith, hundred k tick, add-mul k 1 u, one-mul u)) in omega arith);
    }

pub high_is : (base tick p : ℕ) → 1 ≤ tick → IsHigh base tick p (high_at base tick p)
unfolding high_at
high_is base tick p pos =
    let n : ℕ = base * (100 + p) in
    let u : ℕ = 100 * tick in
    let up : 0 < u = omega arith in
    record {
      multiple = mul-mod_left (n / u) tick;
      within = omega (arith, div-mul-le_self n u, hundred (n / u) tick);
      greatest = λ k h. mul-le-mul_right tick ((le-div_iff_mul-le up).1 (omega (arith, hundred k tick)));
    }

-- ---- a band holds the prices from one end to the other, and no others

pub inside : (b : Band) (x : ℕ) → b.low ≤ x → x ≤ b.high → in_band b x ≡ true
inside b x h k = between_make b.low x b.high h k

pub below_it : (b : Band) (x : ℕ) → x < b.low → in_band b x ≡ false
below_it b x h = rw (lt-leb b.low x h)

pub above_it : (b : Band) (x : ℕ) → b.high < x → in_band b x ≡ false
above_it b x h = cases (leb b.low x) (λ e. rw (e, lt-leb x b.high h)) (λ e. rw e)

-- ---- the base lies inside

-- a multiple of the tick is its quotient times the tick
whole : (tick x : ℕ) → on_tick tick x ≡ true → x / tick * tick ≡ x
whole tick x e = omega (arith, div-add-mod' x tick, eqb-true (x % tick) 0 e)

pub base_inside : (base tick p : ℕ) → 1 ≤ tick → on_tick tick base ≡ true → in_band (band_at base tick p) base ≡ true
base_inside base tick p pos e =
    let w : base / tick * tick ≡ base = whole tick base e in
    let below : base * (100 - p) ≤ base / tick * tick * 100 = rw w (mul-le-mul_left base (sub-le 100 p)) in
    let above : base / tick * tick * 100 ≤ base * (100 + p) = rw w (mul-le-mul_left base (omega arith)) in
    between_make (low_at base tick p) base (high_at base tick p)
    (rw w at ((low_is base tick p pos).least (base / tick) below))
    (rw w at ((high_is base tick p pos).greatest (base / tick) above))

-- ---- a greater percent gives a wider band

pub div_mono : (a b k : ℕ) → a ≤ b → a / k ≤ b / k
div_mono a b zero h = rw (div-zero a, div-zero b) (omega arith)
div_mono a b (suc k) h = (le-div_iff_mul-le {k = suc k} (omega arith)).1 (le_trans (div-mul-le_self a (suc k)) h)

pub low_falls : (base tick p q : ℕ) → p ≤ q → low_at base tick q ≤ low_at base tick p
unfolding low_at
low_falls base tick p q h =
    let e : 100 - q ≤ 100 - p = omega arith in
    let m : base * (100 - q) ≤ base * (100 - p) = mul-le-mul_left base e in
    mul-le-mul_right tick (div_mono (base * (100 - q) + (100 * tick - 1)) (base * (100 - p) + (100 * tick - 1)) (100 * tick) (omega arith))

pub high_rises : (base tick p q : ℕ) → p ≤ q → high_at base tick p ≤ high_at base tick q
unfolding high_at
high_rises base tick p q h =
    let e : 100 + p ≤ 100 + q = omega arith in
    mul-le-mul_right tick (div_mono (base * (100 + p)) (base * (100 + q)) (100 * tick) (mul-le-mul_left base e))

pub band_grows : (base tick p q x : ℕ) → p ≤ q → in_band (band_at base tick p) x ≡ true → in_band (band_at base tick q) x ≡ true
band_grows base tick p q x h e =
    let f = between_facts (low_at base tick p) x (high_at base tick p) e in
    between_make (low_at base tick q) x (high_at base tick q)
    (omega (arith, f, low_falls base tick p q h))
    (omega (arith, f, high_rises base tick p q h))

-- ---- what the code needs: no product overflows, and the ends are below 2^32

pub low_part : {base tick p : ℕ} → Priced base tick p → base * (100 - p) ≤ 5000000000
low_part {p = p} h = mul-le-mul h.base_small (sub-le 100 p)

pub high_part : {base tick p : ℕ} → Priced base tick p → base * (100 + p) ≤ 6500000000
high_part h = mul-le-mul {m₂ = 130} h.base_small (omega arith)

hundredth : (n tick : ℕ) → n / (100 * tick) * tick * 100 ≤ n
hundredth n tick = omega (arith, hundred (n / (100 * tick)) tick, div-mul-le_self n (100 * tick))

pub low_small : {base tick p : ℕ} → Priced base tick p → low_at base tick p ≤ 50010000
unfolding low_at
low_small {base} {tick} {p} h = omega (arith, low_part h, hundredth (base * (100 - p) + (100 * tick - 1)) tick)

pub high_small : {base tick p : ℕ} → Priced base tick p → high_at base tick p ≤ band_most
unfolding high_at
high_small {base} {tick} {p} h = omega (arith, high_part h, hundredth (base * (100 + p)) tick)
