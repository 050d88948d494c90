-- The growth factors are computed from their definition and tested once, entry by entry: each lies from 1,000,000,000 to 1,106,000,000,
-- so a theoretical price is 1 to 110,600,000. Both factor and price are rounded down.
use Prim.Native.Nat.{ℕ, zero, suc, ◌+◌, ◌*◌, ◌^◌, ◌≤◌, ◌<◌}
use native.Mathlib.Omega.{arith}
use native.Mathlib.Nat.{mul-le-mul}
use mathlib.Core.Path.{◌≡◌, refl}
use mathlib.Core.Bool.{Bool}
use mathlib.Core.List.{List, [], ◌∷◌}
use borrow.Author.Tests.{eqb-false}
use lib.Dec.{T, eqb, leb, eqb→eq, leb→le}
use lib.ListN.{get_or, length}
use Rattle.terms.specs.Sizes.{price_most, days_most}
use Rattle.terms.proofs.Logic.{by}
use Rattle.rules_law.specs.Growth.{factorial, term, terms, growth, theoretical}
use Rattle.rules_law.specs.Reference.{theoretical_or, reference_most}
use Rattle.rules_law.proofs.Table.{at, both, both_left, both_right, every}

-- the values of the definition for n days from day i on; the table in the source must equal them
values : ℕ → ℕ → List ℕ
values i zero = []
values i (suc n) = growth i ∷ values (suc i) n

unfoldable pub factors : List ℕ
unfolding values growth terms term factorial
factors = values 0 367

pub record Factor (d x : ℕ) : Type 0 where
  pub is : x ≡ growth d
  pub least : 1000000000 ≤ x
  pub most : x ≤ 1106000000

-- the test of an entry: it is the growth of its day, and within the bounds
right : ℕ → ℕ → Bool
right d x = both (eqb x (growth d)) (both (leb 1000000000 x) (leb x 1106000000))

carried : (d x : ℕ) → T (right d x) → Factor d x
unfolding right
carried d x t =
    let a : Bool = eqb x (growth d) in
    let b : Bool = leb 1000000000 x in
    let c : Bool = leb x 1106000000 in
    let r : T (both b c) = both_right a (both b c) t in
    record {
      is = eqb→eq x (growth d) (both_left a (both b c) t);
      least = leb→le 1000000000 x (both_left b c r);
      most = leb→le x 1106000000 (both_right b c r);
    }

-- THE TEST passes at all 367 entries, by computation
tested : T (every right 0 factors)
unfolding factors values right growth terms term factorial
tested = tt

counted : length factors ≡ 367
unfolding factors values
counted = refl

-- so each entry is the growth of its day, and within the bounds
pub factor_is : (d : ℕ) → d ≤ days_most → Factor d (get_or factors d 0)
factor_is d h = carried d (get_or factors d 0) (at right factors tested d (omega (arith, counted)))

pub growth-range : (d : ℕ) → d ≤ days_most → (1000000000 ≤ growth d) × (growth d ≤ 1106000000)
growth-range d h = let f = factor_is d h in omega (arith, f.is, f.least, f.most)

pub theoretical-range : (u d : ℕ) → 1 ≤ u → u ≤ price_most → d ≤ days_most → (1 ≤ theoretical u d) × (theoretical u d ≤ reference_most)
unfolding theoretical
theoretical-range u d a b h =
    let g = growth-range d h in
    let l : 1 * 1000000000 ≤ u * growth d = mul-le-mul a g.0 in
    let m : u * growth d ≤ 100000000 * 1106000000 = mul-le-mul b g.1 in
    omega arith

-- the greatest reference is the greatest price times the bound on a factor
pub reference_bound : reference_most * 1000000000 ≡ price_most * 1106000000
reference_bound = refl

pub theoretical_or-range : (r u d : ℕ) → 1 ≤ r → r ≤ reference_most → u ≤ price_most → d ≤ days_most → (1 ≤ theoretical_or r u d) × (theoretical_or r u d ≤ reference_most)
unfolding theoretical_or
theoretical_or-range r u d a b c h =
    by (λ (x : ℕ). (1 ≤ x) × (x ≤ reference_most)) (eqb u 0) r (theoretical u d)
    (λ e. (a, b))
    (λ e. theoretical-range u d (let n : (u ≡ 0 → ⊥) = eqb-false u 0 e in omega arith) c h)

-- ---- "rounded down": a factor, and a price

pub growth_down : (d : ℕ) →
    (growth d * (3650 ^ 8 * factorial 8) ≤ 1000000000 * terms d 8) × (1000000000 * terms d 8 < (growth d + 1) * (3650 ^ 8 * factorial 8))
unfolding growth factorial
growth_down d = omega arith

pub theoretical_down : (u d : ℕ) → (theoretical u d * 1000000000 ≤ u * growth d) × (u * growth d < (theoretical u d + 1) * 1000000000)
unfolding theoretical
theoretical_down u d = omega arith
