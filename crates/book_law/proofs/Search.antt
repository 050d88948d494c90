-- A loop over a table finds the first order that passes a test; insertion and removal are done at the place that it finds.
use Prim.Native.Nat.{ℕ, suc, ◌+◌, ◌≤◌, ◌<◌}
use native.Mathlib.Omega.{arith}
use native.Mathlib.Numerals.{add-one}
use borrow.Author.Tests.{lt-ltb, le-ltb}
use mathlib.Core.Bool.{Bool, true, false}
use mathlib.Core.Path.{◌≡◌, refl, sym, ap, ◌∙◌}
use mathlib.Core.List.{List, [], ◌∷◌, ◌++◌}
use lib.Dec.{eqb, ltb, leb-suc-suc}
use lib.ListN.{length, take, drop}
use Rattle.terms.specs.declared.Order.{Order}
use Rattle.terms.specs.declared.Side.{Side}
use Rattle.terms.proofs.Logic.{cases, or-none}
use Rattle.book_law.proofs.Over.{removed-none}
use Rattle.tables.specs.Tables.{order_at, decode, table_of}
use Rattle.tables.proofs.Slots.{decode_read, decode-end, length-decode}
use Rattle.book_law.specs.Priority.{ahead, insert, rests, removed, left_of}
use Rattle.book_law.specs.code.Places.{first_where}

-- ---- a turn of the search, and its two ends: an order found, and none

first-end : (p : Order → Bool) (os : List Order) → os ≡ [] → first_where p os ≡ 0
unfolding first_where
first-end p os e = rw e

first_here : (p : Order → Bool) (x : Order) (os xs : List Order) → os ≡ x ∷ xs → p x ≡ true → first_where p os ≡ 0
unfolding first_where
first_here p x os xs e b = rw (e, b)

first_next : (p : Order → Bool) (x : Order) (os xs : List Order) → os ≡ x ∷ xs → p x ≡ false → first_where p os ≡ suc (first_where p xs)
unfolding first_where
first_next p x os xs e b = rw (e, b)

module _ (p : Order → Bool) (n : ℕ) (t : List ℕ) (i : ℕ) (e : first_where p (decode n t) ≡ i + first_where p (drop i (decode n t))) where
  pub search_none : n ≤ i → i ≡ first_where p (decode n t)
  search_none h = omega (arith, e, first-end p _ (decode-end n t i h))

  module _ (x : Order) (r : x ≡ order_at t i) (g : i < n) where
    pub search_found : p x ≡ true → i ≡ first_where p (decode n t)
    search_found b = omega (arith, e, first_here p x _ _ (decode_read n t i x g r) b)

    pub search_turn : p x ≡ false → first_where p (decode n t) ≡ i + 1 + first_where p (drop (i + 1) (decode n t))
    search_turn b = omega (arith, e, first_next p x _ _ (decode_read n t i x g r) b)

first-within : (p : Order → Bool) (os : List Order) → first_where p os ≤ length os
unfolding first_where
first-within p [] = omega arith
first-within p (x ∷ xs) = cases (p x) (λ e. rw e (omega arith)) (λ e. rw e (omega (arith, first-within p xs)))

pub search_within : (p : Order → Bool) (n : ℕ) (t : List ℕ) (i : ℕ) → i ≡ first_where p (decode n t) → i ≤ n
search_within p n t i e = omega (arith, e, first-within p (decode n t), length-decode n t)

-- ---- insertion

insert-at : (s : Side) (o : Order) (os : List Order) → let k = first_where (λ x. ahead s o x) os in take k os ++ (o ∷ drop k os) ≡ insert s o os
unfolding first_where insert
insert-at s o [] = refl
insert-at s o (x ∷ xs) = cases (ahead s o x) (λ e. rw e) (λ e. rw e (ap (λ (l : List Order). x ∷ l) (insert-at s o xs)))

pub add_done : (s : Side) (o : Order) (n : ℕ) (t u : List ℕ) (i : ℕ) → i ≡ first_where (λ x. ahead s o x) (decode n t) →
    u ≡ table_of (take i (decode n t) ++ (o ∷ drop i (decode n t))) t → u ≡ table_of (insert s o (decode n t)) t
add_done s o n t u i e f = cc (insert-at s o (decode n t))

-- ---- removal

module _ (number : ℕ) where
  abbrev found : List Order → ℕ
  found os = first_where (λ x. eqb x.number number) os

  found_rests : (os : List Order) → ltb (found os) (length os) ≡ rests number os
  unfolding first_where rests
  found_rests [] = refl
  found_rests (x ∷ xs) =
      cases (eqb x.number number)
      (λ e. rw e (lt-ltb 0 (suc (length xs)) (omega arith)))
      (λ e. rw e (leb-suc-suc (suc (found xs)) (length xs) ∙ found_rests xs))

  found_cut : (os : List Order) → found os < length os → take (found os) os ++ drop (suc (found os)) os ≡ removed number os
  unfolding first_where removed
  found_cut [] h = absurd (omega arith)
  found_cut (x ∷ xs) h =
      cases (eqb x.number number) (λ e. rw e) (λ e. rw e (ap (λ (l : List Order). x ∷ l) (found_cut xs (omega (arith, rw e at h)))))

  found_left : (os : List Order) (o : Order) (xs : List Order) → drop (found os) os ≡ o ∷ xs → o.lots ≡ left_of number os
  unfolding first_where left_of
  found_left [] o xs h = let z : ◌≡◌ {A = ℕ} 0 1 = cc in absurd (omega arith)
  found_left (x ∷ ys) o xs h =
      cases (eqb x.number number)
      (λ e. rw e (let g : x ∷ ys ≡ o ∷ xs = rw e at h in cc))
      (λ e. rw e (found_left ys o xs (rw e at h)))

  left-none : (os : List Order) → rests number os ≡ false → left_of number os ≡ 0
  unfolding rests left_of
  left-none [] e = refl
  left-none (x ∷ xs) e =
      let p = or-none (eqb x.number number) (rests number xs) e in
      rw p.0 (left-none xs p.1)

  module _ (n : ℕ) (t : List ℕ) (i : ℕ) (e : i ≡ found (decode n t)) where
    pub rests_done : ltb i n ≡ rests number (decode n t)
    rests_done = rw e (rw (length-decode n t) at (found_rests (decode n t)))

    none : n ≤ i → rests number (decode n t) ≡ false
    none h = sym rests_done ∙ le-ltb i n h

    pub remove_nothing : n ≤ i → 0 ≡ left_of number (decode n t)
    remove_nothing h = sym (left-none (decode n t) (none h))

    pub remove_none : n ≤ i → t ≡ table_of (decode n t) t → t ≡ table_of (removed number (decode n t)) t
    remove_none h f = rw (removed-none number (decode n t) (none h)) f

    pub remove_left : (o : Order) → i < n → o ≡ order_at t i → o.lots ≡ left_of number (decode n t)
    remove_left o h r = found_left (decode n t) o _ (rw e at (decode_read n t i o h r))

    pub remove_done : (u : List ℕ) → i < n → u ≡ table_of (take i (decode n t) ++ drop (i + 1) (decode n t)) t → u ≡ table_of (removed number (decode n t)) t
    remove_done u h f =
        let g : found (decode n t) < length (decode n t) = omega (arith, length-decode n t) in
        cc (rw (← e, ← add-one i) at (found_cut (decode n t) g))
