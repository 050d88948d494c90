-- The loop of `pass`: from what the loop keeps, each way out of it and each turn of it give what the contract and the loop ask for.
use Prim.Native.Nat.{ℕ, ◌+◌, ◌-◌, ◌*◌, ◌≤◌, ◌<◌}
use native.Mathlib.Omega.{arith}
use borrow.Author.Tests.{ne_eqb, lt-ltb, le-ltb, not-true, not-false}
use mathlib.Core.Path.{◌≡◌, ◌∙◌}
use mathlib.Core.Bool.{Bool, true, false, not}
use mathlib.Core.List.{List, [], ◌∷◌}
use lib.ListN.{length, drop}
use Rattle.terms.specs.declared.Order.{Order}
use Rattle.tables.specs.Lengths.{record_length}
use Rattle.tables.specs.Records.{record_of}
use Rattle.rules_law.specs.Reference.{RangeFits}
use Rattle.rules_law.specs.Mark.{mark_most}
use Rattle.tables.specs.Put.{put}
use Rattle.tables.specs.Tables.{order_at, decode}
use Rattle.tables.proofs.Slots.{decode_read, decode-end}
use Rattle.book_law.specs.Matching.{part, stopped, first_after, sweep}
use Rattle.matching_law.specs.declared.Incoming.{Incoming}
use Rattle.matching_law.specs.declared.AtPrice.{AtPrice}
use Rattle.matching_law.specs.declared.Passed.{Passed}
use Rattle.matching_law.specs.code.Sweeps.{taker_of, at_price_of, fill_report, head_lots, End, finish, passed_whole, Passes}
use Rattle.matching_law.proofs.Tests.{sweep-zero, sweep-stops, sweep-cuts, sweep_takes, first_small}
use Rattle.matching_law.proofs.Ends.{finish-stops, finish-cuts, finish_takes}

pub head_lots_lem : (o : Order) (os xs : List Order) → os ≡ o ∷ xs → head_lots os ≡ o.lots
unfolding head_lots
head_lots_lem o os xs e = rw e

sweep-end : (x : Incoming) (first lots : ℕ) (os : List Order) → os ≡ [] → sweep (taker_of x) first lots os ≡ stopped false lots os
unfolding sweep
sweep-end x first lots os e = rw e

module _ (whole : End) (x : Incoming) (at n : ℕ) (t : List ℕ) (i first last left : ℕ) (room : List ℕ)
    (e : whole ≡ finish x at i first last left (drop i (decode n t)) room) where
  halts : (out : Bool) (r : Passed) → r ≡ passed_whole i left last out → i ≤ n → sweep (taker_of x) first left (drop i (decode n t)) ≡ stopped out left (drop i (decode n t)) →
      Passes n (decode n t) whole room r
  halts out r k h s = rw k (record {
    within = omega arith;
    few = omega arith;
    cuts = omega arith;
    same = e ∙ finish-stops x at i first last left (drop i (decode n t)) room out s;
  })

  pub answer-zero : (r : Passed) → r ≡ passed_whole i left last false → i ≤ n → left ≡ 0 → Passes n (decode n t) whole room r
  answer-zero r k h z = halts false r k h (sweep-zero (taker_of x) first left z (drop i (decode n t)))

  pub answer-end : (r : Passed) → r ≡ passed_whole n left last false → i ≤ n → n ≤ i → Passes n (decode n t) whole room r
  answer-end r k h g =
      let d : n ≡ i = omega arith in
      halts false r (rw d at k) h (sweep-end x first left (drop i (decode n t)) (decode-end n t i g))

  module _ (o : Order) (d : o ≡ order_at t i) (g : i < n) (z : left ≡ 0 → ⊥) (m : AtPrice) (f : m ≡ at_price_of (taker_of x) first o.price) where
    pub answer-stop : not m.trades ≡ true → (r : Passed) → r ≡ passed_whole i left last m.out → Passes n (decode n t) whole room r
    answer-stop b r k =
        halts m.out r k (omega arith)
        (rw f (sweep-stops (taker_of x) first left (drop i (decode n t)) o _ (decode_read n t i o g d) (ne_eqb left 0 z) (rw f at (not-true m.trades b))))

    module _ (b : not m.trades ≡ false) (room' : List ℕ) where
      pub answer-part : left < o.lots → (c : Order) → c ≡ part o left → room' ≡ put room (at + record_length * i) (record_of (fill_report x c)) →
          Passes n (decode n t) whole room' (record { whole = i; part = left; left = 0; trades = i + 1; last = o.price; out = false })
      answer-part h c k w =
          let read = decode_read n t i o g d in
          let s = sweep-cuts (taker_of x) first left (drop i (decode n t)) o _ read (ne_eqb left 0 z) (rw f at (not-false m.trades b)) (lt-ltb _ _ h) in
          record {
            within = omega arith;
            few = omega arith;
            cuts = omega (arith, head_lots_lem o _ _ read);
            same = e ∙ rw (w, k) (finish-cuts x at i first last left (drop i (decode n t)) room o _ read s);
          }

      pub turn : o.lots ≤ left → (first' : ℕ) → first' ≡ first_after first o.price → at + record_length * n ≤ length room → room' ≡ put room (at + record_length * i) (record_of (fill_report x o)) →
          whole ≡ finish x at (i + 1) first' o.price (left - o.lots) (drop (i + 1) (decode n t)) room'
      turn h first' k l w =
          let read = decode_read n t i o g d in
          let s = sweep_takes (taker_of x) first left (drop i (decode n t)) o _ read (ne_eqb left 0 z) (rw f at (not-false m.trades b)) (le-ltb _ _ h) in
          e ∙ rw (w, k) (finish_takes x at i first last left (drop i (decode n t)) room o _ read (omega arith) s)

pub turn_first : (x : Incoming) (first : ℕ) (o : Order) (m : AtPrice) → m ≡ at_price_of (taker_of x) first o.price → not m.trades ≡ false → RangeFits x.range → first ≤ mark_most →
    (first' : ℕ) → first' ≡ first_after first o.price → first' ≤ mark_most
turn_first x first o m f b k h first' e = rw e (first_small (taker_of x) first o.price k h (rw f at (not-false m.trades b)))
