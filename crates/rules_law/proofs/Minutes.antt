-- What a minute's boundary makes of the reference; that two steps of time are one; and that after a second boundary further ones change
-- nothing.
use Prim.Native.Nat.{ℕ, zero, suc, ◌+◌, ◌*◌, ◌/◌, ◌≤◌, ◌<◌}
use native.Mathlib.Omega.{arith}
use native.Mathlib.Nat.{zero-add, suc-add, add-mul, one-mul, div-mul-le_self, lt-div-mul-add}
use mathlib.Core.Path.{◌≡◌, refl, sym, ap, ◌∙◌}
use borrow.Author.Tests.{eq-eqb, ne_eqb}
use lib.Dec.{eqb}
use Rattle.terms.proofs.Logic.{cases}
use Rattle.rules_law.specs.declared.Reckoning.{Reckoning}
use Rattle.rules_law.specs.Growth.{theoretical}
use Rattle.rules_law.specs.Reference.{theoretical_or, quiet, boundary, boundaries, crossed, reckoned}

-- ---- one boundary

-- "if the minute just ended had trades, the reference is the plain average of their prices, rounded down"
pub record RoundedDown (sum count average : ℕ) : Type 0 where
  pub not_above : average * count ≤ sum
  pub not_below : sum < (average + 1) * count

pub average_down : (under days : ℕ) (r : Reckoning) → 1 ≤ r.minute.count →
    RoundedDown r.minute.sum r.minute.count (boundary under days r).reference
average_down under days r some =
    let n : ℕ = r.minute.count in
    let s : ℕ = r.minute.sum in
    rw (ne_eqb n 0 (λ e. omega arith))
    (record { not_above = div-mul-le_self s n; not_below = omega (arith, lt-div-mul-add {a = s} {b = n} some, add-mul (s / n) 1 n, one-mul n) })

-- "else, if an underlying is known, the theoretical price"
pub known_theoretical : (under days : ℕ) (r : Reckoning) → r.minute.count ≡ 0 → 1 ≤ under →
    (boundary under days r).reference ≡ theoretical under days
unfolding theoretical_or
known_theoretical under days r e some = rw (eq-eqb r.minute.count 0 e, ne_eqb under 0 (λ z. omega arith))

-- "else it stays"
pub unknown_stays : (days : ℕ) (r : Reckoning) → r.minute.count ≡ 0 → (boundary 0 days r).reference ≡ r.reference
unfolding theoretical_or
unknown_stays days r e = rw (eq-eqb r.minute.count 0 e)

-- and the next minute begins without trades
pub begins_empty : (under days : ℕ) (r : Reckoning) → (boundary under days r).minute ≡ record { count = 0; sum = 0 }
begins_empty under days r = refl

-- ---- boundaries one after the other

pub boundaries-add : (j k under days : ℕ) (r : Reckoning) → boundaries k under days (boundaries j under days r) ≡ boundaries (j + k) under days r
unfolding boundaries
boundaries-add zero k under days r = rw (zero-add k)
boundaries-add (suc j) k under days r = rw (suc-add j k) (boundaries-add j k under days (boundary under days r))

crossed-add : (s t u : ℕ) → s ≤ t → t ≤ u → crossed s t + crossed t u ≡ crossed s u
crossed-add s t u h k = omega arith

-- TWO STEPS OF TIME ARE ONE: to go to t and then to u is to go to u
pub reckoned_twice : (r : Reckoning) (under days s t u : ℕ) → s ≤ t → t ≤ u → reckoned (reckoned r under days s t) under days t u ≡ reckoned r under days s u
unfolding reckoned
reckoned_twice r under days s t u h k =
    boundaries-add (crossed s t) (crossed t u) under days r
    ∙ ap (λ (n : ℕ). boundaries n under days r) (crossed-add s t u h k)

-- ---- for the code, which computes at most two boundaries

or_settles : (x u d : ℕ) → theoretical_or (theoretical_or x u d) u d ≡ theoretical_or x u d
unfolding theoretical_or
or_settles x u d = cases (eqb u 0) (λ e. rw e) (λ e. rw e)

boundary_settles : (u d : ℕ) (r : Reckoning) → boundary u d (boundary u d (boundary u d r)) ≡ boundary u d (boundary u d r)
boundary_settles u d r = ap quiet (or_settles (boundary u d r).reference u d)

-- two boundaries give the same as any greater number of them
boundaries_settle : (k u d : ℕ) (r : Reckoning) → boundaries (suc (suc k)) u d r ≡ boundary u d (boundary u d r)
unfolding boundaries
boundaries_settle zero u d r = refl
boundaries_settle (suc k) u d r = boundaries_settle k u d (boundary u d r) ∙ boundary_settles u d r

boundary-quiet : (u d : ℕ) (r : Reckoning) → r.minute.count ≡ 0 → boundary u d r ≡ quiet (theoretical_or r.reference u d)
boundary-quiet u d r e = rw (eq-eqb r.minute.count 0 e)

boundary_busy : (u d : ℕ) (r : Reckoning) → (r.minute.count ≡ 0 → ⊥) → boundary u d r ≡ quiet (r.minute.sum / r.minute.count)
boundary_busy u d r n = rw (ne_eqb r.minute.count 0 n)

quiet_at : (k u d : ℕ) (r : Reckoning) → (k ≡ 0 → ⊥) → r.minute.count ≡ 0 → boundaries k u d r ≡ quiet (theoretical_or r.reference u d)
unfolding boundaries
quiet_at zero u d r n e = absurd (n refl)
quiet_at (suc zero) u d r n e = boundary-quiet u d r e
quiet_at (suc (suc k)) u d r n e =
    boundaries_settle k u d r
    ∙ (ap (boundary u d) (boundary-quiet u d r e) ∙ ap quiet (or_settles r.reference u d))

busy_at : (k u d : ℕ) (r : Reckoning) → (k ≡ 0 → ⊥) → (k ≡ 1 → ⊥) → (r.minute.count ≡ 0 → ⊥) → boundaries k u d r ≡ quiet (theoretical_or (r.minute.sum / r.minute.count) u d)
busy_at zero u d r n m e = absurd (n refl)
busy_at (suc zero) u d r n m e = absurd (m refl)
busy_at (suc (suc k)) u d r n m e = boundaries_settle k u d r ∙ ap (boundary u d) (boundary_busy u d r e)

-- each of the four returns of `reckon` is what the definition says
module _ (r : Reckoning) (u d s t : ℕ) where
  pub reckon_none : crossed s t ≡ 0 → r ≡ reckoned r u d s t
  unfolding reckoned boundaries
  reckon_none e = rw e

  pub reckon_quiet : (x : Reckoning) (p : ℕ) → x ≡ quiet p → p ≡ theoretical_or r.reference u d → (crossed s t ≡ 0 → ⊥) → r.minute.count ≡ 0 → x ≡ reckoned r u d s t
  unfolding reckoned
  reckon_quiet x p q h n e = q ∙ (ap quiet h ∙ sym (quiet_at (crossed s t) u d r n e))

  pub reckon_once : (x : Reckoning) → x ≡ quiet (r.minute.sum / r.minute.count) → crossed s t ≡ 1 → (r.minute.count ≡ 0 → ⊥) → x ≡ reckoned r u d s t
  unfolding reckoned boundaries
  reckon_once x q e n = q ∙ rw e (sym (boundary_busy u d r n))

  pub reckon_busy : (x : Reckoning) (p : ℕ) → x ≡ quiet p → p ≡ theoretical_or (r.minute.sum / r.minute.count) u d → (crossed s t ≡ 0 → ⊥) → (crossed s t ≡ 1 → ⊥) → (r.minute.count ≡ 0 → ⊥) → x ≡ reckoned r u d s t
  unfolding reckoned
  reckon_busy x p q h n m e = q ∙ (ap quiet h ∙ sym (busy_at (crossed s t) u d r n m e))

pub ruleset reckonings = (reckon_none, reckon_quiet, reckon_once, reckon_busy)
