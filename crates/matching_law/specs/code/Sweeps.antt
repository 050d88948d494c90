-- What matching leaves in the lent numbers: the counter orders after `sweep`, its trades as records in the room, and the answer.
use Rattle.std.specs.Prelude.{ℕ, ◌+◌, ◌-◌, ◌*◌, ◌≤◌, ◌≡◌, Bool, ◌&&◌, not, List, [], ◌∷◌, length, drop}
use Rattle.terms.specs.declared.Order.{Order}
use Rattle.terms.specs.declared.Report.{Report}
use Rattle.terms.specs.declared.Said.TheVariants.{Trade}
use Rattle.tables.specs.Lengths.{record_length}
use Rattle.tables.specs.Records.{records_of}
use Rattle.rules_law.specs.Reference.{in_range}
use Rattle.tables.specs.Put.{put}
use Rattle.tables.specs.Tables.{table_of}
use Rattle.book_law.specs.Matching.{Taker, Swept, taker, fits, beyond, part, sweep, report_at, deal_of, trade_reports, own_last_or}
use Rattle.matching_law.specs.declared.Incoming.{Incoming}
use Rattle.matching_law.specs.declared.AtPrice.{AtPrice}
use Rattle.matching_law.specs.declared.Passed.{Passed}
use Rattle.matching_law.specs.declared.Matched.{Matched}

-- ---- a whole sweep

abbrev pub taker_of : Incoming → Taker
taker_of x = taker x.side x.kind x.range

-- what the incoming order does with the counter orders
abbrev pub swept_of : Incoming → List Order → Swept
swept_of x os = sweep (taker_of x) 0 x.lots os

-- the trade reports of these fills, as they stand in the room
abbrev pub records_for : Incoming → List Order → List ℕ
records_for x fills = records_of (trade_reports x.time x.side x.number fills)

-- what is answered for a sweep whose reports begin at a place of the room
abbrev pub matched_of : Incoming → ℕ → Swept → Matched
matched_of x at w =
    record {
      count = length w.rest;
      left = w.left;
      trades = length w.fills;
      at = at + record_length * length w.fills;
      last = own_last_or x.last w.fills;
      out = w.out;
    }

-- a sweep of the counter orders os turns their table t into t' and the room into room', and answers r
pub record SweptInto (x : Incoming) (os : List Order) (t room : List ℕ) (at : ℕ) (t' room' : List ℕ) (r : Matched) : Type 0 where
  pub book : t' ≡ table_of (swept_of x os).rest t
  pub told : room' ≡ put room at (records_for x (swept_of x os).fills)
  pub answer : r ≡ matched_of x at (swept_of x os)

-- ---- one counter price

-- the order trades there if the price fits, is in range and is not beyond the mark; its remainder is cancelled as out of range if the price
-- fits and is not in range
abbrev pub at_price_of : Taker → ℕ → ℕ → AtPrice
at_price_of q first price =
    record {
      trades = fits q.side q.kind price && in_range q.range price && not (beyond q.side q.kind first price);
      out = fits q.side q.kind price && not (in_range q.range price);
    }

-- ---- a sweep at some point of its loop

-- the trade report of a fill
abbrev pub fill_report : Incoming → Order → Report
fill_report x f = report_at x.time (Trade (deal_of x.side x.number f))

-- orders of which the first has lost some lots
unfoldable pub trim : ℕ → List Order → List Order
trim lots [] = []
trim lots (o ∷ os) = part o (o.lots - lots) ∷ os

unfoldable pub head_lots : List Order → ℕ
head_lots [] = 0
head_lots (o ∷ os) = o.lots

-- all that a sweep leaves behind
pub record End : Type 0 where
  pub rest : List Order
  pub left : ℕ
  pub trades : ℕ
  pub last : ℕ
  pub out : Bool
  pub room : List ℕ

-- what a sweep that comes to w leaves, where `done` trades were made before it, the last at `last`, and their reports stand from `at` on
abbrev pub end_of : Incoming → ℕ → ℕ → ℕ → List ℕ → Swept → End
end_of x at done last room w =
    record {
      rest = w.rest;
      left = w.left;
      trades = done + length w.fills;
      last = own_last_or last w.fills;
      out = w.out;
      room = put room (at + record_length * done) (records_for x w.fills);
    }

-- what a sweep leaves that has come to this point: `done` trades, the first and the last at these prices, and so many lots left with the
-- orders os ahead
unfoldable pub finish : Incoming → ℕ → ℕ → ℕ → ℕ → ℕ → List Order → List ℕ → End
finish x at done first last lots os room = end_of x at done last room (sweep (taker_of x) first lots os)

-- the loop's answer when it stops before slot i
abbrev pub passed_whole : ℕ → ℕ → ℕ → Bool → Passed
passed_whole i left last out = record { whole = i; part = 0; left = left; trades = i; last = last; out = out }

-- the loop's answer, over a table of n orders, says how the sweep ends
pub record Passes (n : ℕ) (os : List Order) (end : End) (room : List ℕ) (r : Passed) : Type 0 where
  pub within : r.whole ≤ n
  pub few : r.trades ≤ n
  pub cuts : r.part ≤ head_lots (drop r.whole os)
  pub same : end ≡ record { rest = trim r.part (drop r.whole os); left = r.left; trades = r.trades; last = r.last; out = r.out; room = room }
