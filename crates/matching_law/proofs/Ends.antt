-- What a sweep leaves from any point on: if it stops there, if it trades a part of the next order, or if it trades that whole and goes on.
use Prim.Native.Nat.{ℕ, suc, ◌+◌, ◌-◌, ◌*◌, ◌≤◌}
use native.Mathlib.Omega.{arith}
use native.Mathlib.Nat.{add-zero, sub-zero}
use mathlib.Core.Path.{◌≡◌, refl}
use mathlib.Core.Bool.{Bool, false}
use mathlib.Core.List.{List, [], ◌∷◌, append-nil}
use lib.ListN.{length}
use Rattle.terms.specs.declared.Order.{Order}
use Rattle.tables.specs.Lengths.{record_length}
use Rattle.tables.specs.Records.{record_of, records_of}
use Rattle.tables.specs.Put.{put}
use Rattle.tables.proofs.Puts.{put-none, put-put}
use Rattle.tables.proofs.Records.{length-record}
use Rattle.book_law.specs.Matching.{Swept, part, stopped, cut_short, taken_whole, first_after, sweep, trade_reports, own_last_or}
use Rattle.matching_law.specs.declared.Incoming.{Incoming}
use Rattle.matching_law.specs.code.Sweeps.{taker_of, records_for, fill_report, trim, finish}

pub trim-none : (os : List Order) → trim 0 os ≡ os
unfolding trim
trim-none [] = refl
trim-none (o ∷ os) = rw sub-zero

module _ (x : Incoming) (at done first last lots : ℕ) (os : List Order) (room : List ℕ) where
  pub finish-stops : (out : Bool) → sweep (taker_of x) first lots os ≡ stopped out lots os →
      finish x at done first last lots os room ≡ record { rest = trim 0 os; left = lots; trades = done; last = last; out = out; room = room }
  unfolding finish records_of trade_reports own_last_or
  finish-stops out e = rw (e, trim-none os, add-zero done, put-none)

  module _ (o : Order) (xs : List Order) (d : os ≡ o ∷ xs) where
    pub finish-cuts : sweep (taker_of x) first lots os ≡ cut_short lots o xs →
        finish x at done first last lots os room ≡
        record { rest = trim lots os; left = 0; trades = done + 1; last = o.price; out = false; room = put room (at + record_length * done) (record_of (fill_report x (part o lots))) }
    unfolding finish records_of trade_reports own_last_or trim
    finish-cuts e = rw (e, d, append-nil)

    pub finish_takes : at + record_length * done + record_length ≤ length room →
        sweep (taker_of x) first lots os ≡ taken_whole o (sweep (taker_of x) (first_after first o.price) (lots - o.lots) xs) →
        finish x at done first last lots os room ≡
        finish x at (done + 1) (first_after first o.price) o.price (lots - o.lots) xs (put room (at + record_length * done) (record_of (fill_report x o)))
    unfolding finish records_of trade_reports own_last_or
    finish_takes h e =
        let w : Swept = sweep (taker_of x) (first_after first o.price) (lots - o.lots) xs in
        let r : List ℕ = record_of (fill_report x o) in
        let l : length r ≡ record_length = length-record (fill_report x o) in
        let a : done + suc (length w.fills) ≡ done + 1 + length w.fills = omega arith in
        let b : at + record_length * (done + 1) ≡ at + record_length * done + length r = omega arith in
        rw (e, a, b, put-put room (at + record_length * done) r (records_for x w.fills) (omega arith))
