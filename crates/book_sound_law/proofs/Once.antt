-- Order numbers are distinct exactly where each comes at most once.
use Prim.Native.Nat.{ℕ, ◌+◌, ◌≤◌}
use native.Mathlib.Omega.{arith}
use borrow.Author.Tests.{eq-eqb, eqb-true, not-true}
use mathlib.Core.Path.{◌≡◌, refl}
use mathlib.Core.Bool.{true, false}
use mathlib.Core.List.{List, [], ◌∷◌}
use lib.Dec.{eqb}
use Rattle.terms.specs.declared.Order.{Order}
use Rattle.terms.proofs.Logic.{cases, both, make, or-none}
use Rattle.book_law.specs.Priority.{rests}
use Rattle.book_law.specs.Over.{tally, times}
use Rattle.book_law.proofs.Priority.{Older}
use Rattle.book_sound_law.specs.Sound.{distinct}

rests-none : (n : ℕ) (os : List Order) → rests n os ≡ false → times n os ≡ 0
unfolding rests tally
rests-none n [] e = refl
rests-none n (o ∷ os) e = let p = or-none (eqb o.number n) (rests n os) e in rw p.0 (omega (arith, rests-none n os p.1))

none-rests : (n : ℕ) (os : List Order) → times n os ≡ 0 → rests n os ≡ false
unfolding rests tally
none-rests n [] e = refl
none-rests n (o ∷ os) e =
    cases (eqb o.number n)
    (λ f. absurd (let z : 1 + times n os ≡ 0 = rw f at e in omega arith))
    (λ f. rw f (none-rests n os (let z : 0 + times n os ≡ 0 = rw f at e in omega arith)))

pub distinct_once : (os : List Order) → distinct os ≡ true → (id : ℕ) → times id os ≤ 1
unfolding distinct tally
distinct_once [] e id = omega arith
distinct_once (o ∷ os) e id =
    let q = both e in
    cases (eqb o.number id)
    (λ f. rw f (let z : times id os ≡ 0 = rw (eqb-true o.number id f) at (rests-none o.number os (not-true _ q.0)) in omega arith))
    (λ f. rw f (omega (arith, distinct_once os q.1 id)))

pub once_distinct : (os : List Order) → ((id : ℕ) → times id os ≤ 1) → distinct os ≡ true
unfolding distinct tally
once_distinct [] h = refl
once_distinct (o ∷ os) h =
    make (rw (none-rests o.number os (let z = rw (eq-eqb o.number o.number refl) at (h o.number) in omega arith)) refl)
    (once_distinct os (λ id. omega (arith, h id)))

-- a number above all others is not among them
pub times_older : (k : ℕ) (os : List Order) → Older k os → times k os ≡ 0
unfolding tally
times_older k [] h = refl
times_older k (o ∷ os) h =
    cases (eqb o.number k)
    (λ e. absurd (let z : o.number ≡ k = eqb-true o.number k e in omega (arith, h.0)))
    (λ e. rw e (omega (arith, times_older k os h.1)))
