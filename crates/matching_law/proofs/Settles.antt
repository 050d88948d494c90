-- The counter table after a sweep, and the sweep as a whole.
use Prim.Native.Nat.{ℕ, ◌+◌, ◌-◌, ◌*◌, ◌≤◌, ◌<◌}
use native.Mathlib.Omega.{arith}
use native.Mathlib.Nat.{zero-add, add-zero}
use native.Mathlib.Decide.{dec_lt}
use mathlib.Core.Path.{◌≡◌, refl, sym, ap}
use mathlib.Core.List.{List, [], ◌∷◌, ◌++◌}
use lib.ListN.{length, take, drop, length-append, length-take, length-drop}
use lib.Seq.{drop_at}
use Rattle.terms.specs.declared.Order.{Order}
use Rattle.terms.specs.Sizes.{slots}
use Rattle.tables.specs.Lengths.{width, record_length}
use Rattle.tables.specs.Tables.{order_at, decode, table_of, Holds}
use Rattle.tables.proofs.Slots.{length-decode, decode_read, decode-end}
use Rattle.tables.proofs.Whole.{After, after}
use Rattle.book_law.specs.Matching.{part}
use Rattle.book_law.proofs.Conserve.{sweep_fewer}
use Rattle.matching_law.specs.declared.Incoming.{Incoming}
use Rattle.matching_law.specs.declared.Passed.{Passed}
use Rattle.matching_law.specs.declared.Matched.{Matched}
use Rattle.matching_law.specs.code.Sweeps.{taker_of, swept_of, trim, head_lots, End, finish, Passes, SweptInto}
use Rattle.matching_law.proofs.Ends.{trim-none}
use Rattle.matching_law.proofs.Turns.{head_lots_lem}

-- ---- settle: taking out the orders that traded whole, and cutting the next

pub settle_none : (n : ℕ) (t u : List ℕ) (i lots : ℕ) → u ≡ table_of (drop i (decode n t)) t → lots ≡ 0 → u ≡ table_of (trim lots (drop i (decode n t))) t
settle_none n t u i lots e z = rw (z, trim-none) e

-- if the order after those has lots to lose, there is such an order
pub head_there : (n : ℕ) (t : List ℕ) (i lots : ℕ) → (lots ≡ 0 → ⊥) → lots ≤ head_lots (drop i (decode n t)) → i < n
unfolding head_lots
head_there n t i lots z h = elim (dec_lt i n) [ yes p ↦ p | no p ↦ absurd (z (omega (arith, rw (decode-end n t i (omega arith)) at h))) ]

module _ (n : ℕ) (t : List ℕ) (h : Holds n t) (i lots : ℕ) (z : lots ≡ 0 → ⊥) (g : lots ≤ head_lots (drop i (decode n t))) where
  pub settle_low : i < slots
  settle_low = omega (arith, h.few, head_there n t i lots z g)

  pub settle_fits : width * i + width ≤ length t
  settle_fits = omega (arith, h.few, h.long, head_there n t i lots z g)

  module _ (o : Order) (r : o ≡ order_at t i) where
    pub settle_less : lots ≤ o.lots
    settle_less = omega (arith, g, head_lots_lem o _ _ (decode_read n t i o (head_there n t i lots z g) r))

    module _ (p : Order) (k : p ≡ part o (o.lots - lots)) (u : List ℕ) (e : u ≡ table_of (take i (decode n t) ++ (p ∷ drop (i + 1) (decode n t))) t) where
      changed : After n (take i (decode n t) ++ (p ∷ drop (i + 1) (decode n t))) t u
      changed =
          let l : length (decode n t) ≡ n = length-decode n t in
          let m : i < n = head_there n t i lots z g in
          after n (take i (decode n t) ++ (p ∷ drop (i + 1) (decode n t))) t u e (simp (length-append, length-take, length-drop) (omega arith)) h.few h.long

      pub settle_holds : Holds n u
      settle_holds = changed.holds

      pub settle_done : (v : List ℕ) → v ≡ table_of (drop i (decode n u)) u → v ≡ table_of (trim lots (drop i (decode n t))) t
      unfolding trim
      settle_done v f =
          let l : length (decode n t) ≡ n = length-decode n t in
          let there : i < n = head_there n t i lots z g in
          let m : length (take i (decode n t)) ≡ i = simp length-take (omega arith) in
          let d = decode_read n t i o there r in
          let y : drop i (take i (decode n t) ++ (p ∷ drop (i + 1) (decode n t))) ≡ p ∷ drop (i + 1) (decode n t) = drop_at (take i (decode n t)) (p ∷ drop (i + 1) (decode n t)) i m in
          rw (f, changed.reads, y, changed.past, d, k)

-- ---- sweep

length-trim : (lots : ℕ) (os : List Order) → length (trim lots os) ≡ length os
unfolding trim
length-trim lots [] = refl
length-trim lots (o ∷ os) = refl

pub swept_into : (x : Incoming) (n : ℕ) (t room : List ℕ) (at : ℕ) (t' room' : List ℕ) (r : Passed) →
    Passes n (decode n t) (finish x at 0 0 x.last x.lots (decode n t) room) room' r →
    t' ≡ table_of (trim r.part (drop r.whole (decode n t))) t →
    SweptInto x (decode n t) t room at t' room' (record { count = n - r.whole; left = r.left; trades = r.trades; at = at + record_length * r.trades; last = r.last; out = r.out })
unfolding finish
swept_into x n t room at t' room' r h e =
    let os = decode n t in
    let l : length os ≡ n = length-decode n t in
    let rest : (swept_of x os).rest ≡ trim r.part (drop r.whole os) = ap (λ (y : End). y.rest) h.same in
    let count : length (swept_of x os).rest ≡ n - r.whole = rw rest (rw length-trim (simp length-drop (omega arith))) in
    let some : length (swept_of x os).fills ≡ r.trades = rw zero-add at (ap (λ (y : End). y.trades) h.same) in
    record {
      book = rw rest e;
      told = sym (rw add-zero at (ap (λ (y : End). y.room) h.same));
      answer = rw (count, some, ap (λ (y : End). y.left) h.same, ap (λ (y : End). y.last) h.same, ap (λ (y : End). y.out) h.same);
    }

-- what a caller knows afterwards: the table holds the orders that remain
pub after-sweep : (x : Incoming) (n : ℕ) (t room : List ℕ) (at : ℕ) (t' room' : List ℕ) (r : Matched) → Holds n t →
    SweptInto x (decode n t) t room at t' room' r → After r.count (swept_of x (decode n t)).rest t t'
after-sweep x n t room at t' room' r h k =
    let os = decode n t in
    let l : length os ≡ n = length-decode n t in
    let few : n ≤ slots = h.few in
    let less = sweep_fewer (taker_of x) 0 x.lots os in
    rw k.answer (after (length (swept_of x os).rest) (swept_of x os).rest t t' k.book refl (omega (arith, less.rest)) h.long)
