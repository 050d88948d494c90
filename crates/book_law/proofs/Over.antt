-- Insertion and removal: which properties of the orders they keep, what becomes of sums over the orders, and how many orders there are.
use Prim.Native.Nat.{ℕ, suc, ◌+◌, ◌≤◌}
use native.Mathlib.Omega.{arith}
use borrow.Author.Tests.{eqb-true, eq-eqb, ne_eqb}
use mathlib.Core.Path.{◌≡◌, refl, ap}
use mathlib.Core.Bool.{true, false, false≢true}
use mathlib.Core.List.{List, [], ◌∷◌, ◌++◌}
use lib.Dec.{eqb}
use lib.ListN.{length}
use Rattle.terms.specs.declared.Side.{Side}
use Rattle.terms.specs.declared.Order.{Order}
use Rattle.terms.proofs.Logic.{by, cases, or-none}
use Rattle.book_law.specs.Priority.{ahead, insert, rests, removed, left_of, removed_each}
use Rattle.book_law.specs.Over.{Each, FirstPrice, tally, mine, lots_of}

-- ---- each order

pub each_map : (P Q : Order → Type 0) → ((o : Order) → P o → Q o) → (os : List Order) → Each P os → Each Q os
each_map P Q f [] h = tt
each_map P Q f (o ∷ os) h = (f o h.0, each_map P Q f os h.1)

pub each_all : (P : Order → Type 0) → ((o : Order) → P o) → (os : List Order) → Each P os
each_all P f [] = tt
each_all P f (o ∷ os) = (f o, each_all P f os)

pub each_append : (P : Order → Type 0) (xs ys : List Order) → Each P xs → Each P ys → Each P (xs ++ ys)
each_append P [] ys h k = k
each_append P (x ∷ xs) ys h k = (h.0, each_append P xs ys h.1 k)

pub first-map : (P Q : ℕ → Type 0) → ((p : ℕ) → P p → Q p) → (os : List Order) → FirstPrice P os → FirstPrice Q os
first-map P Q f [] h = tt
first-map P Q f (o ∷ os) h = f o.price h

pub each_insert : (P : Order → Type 0) (s : Side) (o : Order) (os : List Order) → P o → Each P os → Each P (insert s o os)
unfolding insert
each_insert P s o [] h e = (h, tt)
each_insert P s o (x ∷ xs) h e = by (Each P) (ahead s o x) _ _ (λ a. (h, e)) (λ a. (e.0, each_insert P s o xs h e.1))

pub each_removed : (P : Order → Type 0) (n : ℕ) (os : List Order) → Each P os → Each P (removed n os)
unfolding removed
each_removed P n [] e = tt
each_removed P n (x ∷ xs) e = by (Each P) (eqb x.number n) _ _ (λ a. e.1) (λ a. (e.0, each_removed P n xs e.1))

-- ---- sums over the orders

pub tally-append : (f : Order → ℕ) (xs ys : List Order) → tally f (xs ++ ys) ≡ tally f xs + tally f ys
unfolding tally
tally-append f [] ys = omega arith
tally-append f (x ∷ xs) ys = omega (arith, tally-append f xs ys)

pub tally-insert : (f : Order → ℕ) (s : Side) (o : Order) (os : List Order) → tally f (insert s o os) ≡ f o + tally f os
unfolding tally insert
tally-insert f s o [] = refl
tally-insert f s o (x ∷ xs) =
    by (λ (l : List Order). tally f l ≡ f o + (f x + tally f xs)) (ahead s o x) _ _ (λ e. refl) (λ e. omega (arith, tally-insert f s o xs))

pub tally-removed : (f : Order → ℕ) (n : ℕ) (os : List Order) → tally f (removed n os) ≤ tally f os
unfolding tally removed
tally-removed f n [] = omega arith
tally-removed f n (x ∷ xs) =
    by (λ (l : List Order). tally f l ≤ f x + tally f xs) (eqb x.number n) _ _ (λ e. omega arith) (λ e. omega (arith, tally-removed f n xs))

pub mine-add : (id n a b : ℕ) → mine id n (a + b) ≡ mine id n a + mine id n b
mine-add id n a b = cases (eqb n id) (λ e. rw e refl) (λ e. rw e (omega arith))

pub mine-zero : (id n : ℕ) → mine id n 0 ≡ 0
mine-zero id n = cases (eqb n id) (λ e. rw e) (λ e. rw e)

-- lots are counted for the order that they belong to, and for no other
pub mine-own : (id n : ℕ) → mine id id n ≡ n
mine-own id n = rw (eq-eqb id id refl)

pub mine-other : (id number n : ℕ) → (number ≡ id → ⊥) → mine id number n ≡ 0
mine-other id number n h = rw (ne_eqb number id h)

-- an insertion makes and loses no lot,
pub lots-insert : (id : ℕ) (s : Side) (o : Order) (os : List Order) →
    lots_of id (insert s o os) ≡ mine id o.number o.lots + lots_of id os
lots-insert id s o os = tally-insert (λ x. mine id x.number x.lots) s o os

-- nor does a removal; where no order has that number, nothing is removed and its lots are 0
pub lots-removed : (id n : ℕ) (os : List Order) → mine id n (left_of n os) + lots_of id (removed n os) ≡ lots_of id os
unfolding tally removed left_of
lots-removed id n [] = omega (arith, mine-zero id n)
lots-removed id n (o ∷ os) =
    cases (eqb o.number n)
    (λ e. rw e (rw (eqb-true o.number n e) refl))
    (λ e. rw e (omega (arith, lots-removed id n os)))

-- ---- how many orders there are

pub length-insert : (s : Side) (o : Order) (os : List Order) → length (insert s o os) ≡ suc (length os)
unfolding insert
length-insert s o [] = refl
length-insert s o (x ∷ xs) =
    by (λ (l : List Order). length l ≡ suc (suc (length xs))) (ahead s o x) _ _ (λ e. refl) (λ e. ap suc (length-insert s o xs))

-- a removal takes one order, if it rests,
pub length_removed : (n : ℕ) (os : List Order) → rests n os ≡ true → suc (length (removed n os)) ≡ length os
unfolding rests removed
length_removed n [] e = absurd (false≢true e)
length_removed n (o ∷ os) e =
    cases (eqb o.number n) (λ f. rw f refl) (λ f. rw f (ap suc (length_removed n os (rw f at e))))

pub length_less : (n : ℕ) (os : List Order) → length (removed n os) ≤ length os
unfolding removed
length_less n [] = omega arith
length_less n (o ∷ os) =
    by (λ (l : List Order). length l ≤ suc (length os)) (eqb o.number n) _ _ (λ e. omega arith) (λ e. omega (arith, length_less n os))

-- and nothing otherwise
pub removed-none : (n : ℕ) (os : List Order) → rests n os ≡ false → removed n os ≡ os
unfolding rests removed
removed-none n [] e = refl
removed-none n (o ∷ os) e =
    let p = or-none (eqb o.number n) (rests n os) e in
    rw p.0 (ap (λ l. o ∷ l) (removed-none n os p.1))

-- "It cancels all": once each order is removed, none is left
pub removed_each_lem : (os : List Order) → removed_each os os ≡ []
unfolding removed_each removed
removed_each_lem [] = refl
removed_each_lem (o ∷ os) = rw (eq-eqb o.number o.number refl) (removed_each_lem os)
