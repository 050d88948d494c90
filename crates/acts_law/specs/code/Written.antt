-- What code finds and leaves in the lent numbers while an event acts.
use Rattle.std.specs.Prelude.{ℕ, zero, suc, ◌+◌, ◌*◌, ◌≤◌, ◌<◌, ◌≡◌, Bool, true, false, cond, ◌||◌, eqb, List, [], ◌∷◌, length, get_or, drop}
use Rattle.terms.specs.declared.Order.{Order}
use Rattle.terms.specs.declared.Report.{Report}
use Rattle.terms.specs.declared.Side.{Side}
use Rattle.terms.specs.declared.Life.{Life}
use Rattle.terms.specs.declared.Kind.{Kind}
use Rattle.terms.specs.declared.Band.{Band}
use Rattle.terms.specs.declared.Why.TheVariants.{Asked, OutOfRange}
use Rattle.terms.specs.Sizes.{slots, price_most, lots_most}
use Rattle.tables.specs.Lengths.{record_length, table_length}
use Rattle.tables.specs.Records.{records_of}
use Rattle.tables.specs.Put.{put}
use Rattle.tables.specs.Tables.{decode, table_of, Holds}
use Rattle.book_law.specs.Priority.{insert, rests, removed, left_of}
use Rattle.book_law.specs.declared.Fate.{Fate}
use Rattle.book_law.specs.declared.Fate.TheVariants.{Done, Rests, Turns, Ends}
use Rattle.book_law.specs.Matching.{fate_of_left, settled, fate_reports}
use Rattle.acts_law.specs.declared.Placed.{Placed}
use Rattle.acts_law.specs.declared.Withdrawn.{Withdrawn}
use Rattle.state_law.specs.declared.Session.{Session}
use Rattle.state_law.specs.Now.{Steady, band_now}
use Rattle.state_law.specs.Trades.{TradesFit}
use Rattle.acts_law.specs.Acts.{ended, finished}

-- these reports were written into the room from a place on, and next is the place behind them
pub record Written (room : List ℕ) (at : ℕ) (rs : List Report) (room' : List ℕ) (next : ℕ) : Type 0 where
  pub laid : room' ≡ put room at (records_of rs)
  pub behind : next ≡ at + record_length * length rs

-- ---- trades read back from their records

-- a trade's price and lots, as they stand in its record
abbrev pub fill_at : List ℕ → Order
fill_at l = record { number = 0; price = get_or l 5 0; lots = get_or l 4 0 }

-- n trades, from records that stand one behind the other
unfoldable pub fills_at : ℕ → List ℕ → List Order
fills_at zero l = []
fills_at (suc n) l = fill_at l ∷ fills_at n (drop record_length l)

-- a trade that a session can take
pub record Deals (f : Order) : Type 0 where
  pub price_small : f.price ≤ price_most
  pub lots_some : 1 ≤ f.lots
  pub lots_small : f.lots ≤ lots_most

-- each of n trades, read from their records, is such a trade
pub record EachDeals (n : ℕ) (l : List ℕ) : Type 0 where
  pub at : (k : ℕ) → k < n → Deals (fill_at (drop (record_length * k) l))

-- a session can remember n trades whose records stand in the room from a place on
pub record Remembering (s : Session) (band : Band) (room : List ℕ) (at n : ℕ) : Type 0 where
  pub fits : TradesFit s n
  pub banded : band ≡ band_now s
  pub few : n ≤ slots
  pub space : at + record_length * n ≤ length room
  pub deals : EachDeals n (drop at room)

-- ---- the fate of a remainder, from what code knows of a sweep

abbrev pub fate_from : Life → Kind → Band → ℕ → ℕ → Bool → Fate
fate_from life kind band last left out = cond (eqb left 0) Done (cond out (Ends OutOfRange) (fate_of_left life kind band last))

-- the remainder takes a place on its side
abbrev pub takes_place : Fate → Bool
takes_place Done = false
takes_place (Rests price) = true
takes_place (Turns price) = true
takes_place (Ends why) = false

-- an order has taken its place on a side
pub record RestedAs (side : Side) (o : Order) (n : ℕ) (t t' : List ℕ) (count : ℕ) : Type 0 where
  pub book : t' ≡ table_of (insert side o (decode n t)) t
  pub counted : count ≡ length (insert side o (decode n t))

-- what must be there before a remainder is settled: a place on its side, if it takes one, and room for a report
pub record Settling (n : ℕ) (t room : List ℕ) (at : ℕ) (fate : Fate) : Type 0 where
  pub holds : Holds n t
  pub space : at + record_length ≤ length room
  pub place : takes_place fate ≡ true → n < slots

-- the remainder was settled: the table of its own side, the room and the answer
pub record Settled (side : Side) (time number left : ℕ) (fate : Fate) (os : List Order) (t room : List ℕ) (at : ℕ) (t' room' : List ℕ) (r : Placed) : Type 0 where
  pub book : t' ≡ table_of (settled side number left fate os) t
  pub count : r.count ≡ length (settled side number left fate os)
  pub told : Written room at (fate_reports time number left fate) room' r.at

-- ---- a cancel

-- the order of that number rests on one of the sides
pub record RestsIn (number : ℕ) (buys sells : List Order) : Type 0 where
  pub somewhere : (rests number buys || rests number sells) ≡ true

-- the orders of each side after the cancel, the lots that were cancelled, and what the cancel leaves
abbrev pub buys_without : ℕ → List Order → List Order → List Order
buys_without number buys sells = cond (rests number buys) (removed number buys) buys

abbrev pub sells_without : ℕ → List Order → List Order → List Order
sells_without number buys sells = cond (rests number buys) sells (removed number sells)

abbrev pub lots_withdrawn : ℕ → List Order → List Order → ℕ
lots_withdrawn number buys sells = cond (rests number buys) (left_of number buys) (left_of number sells)

pub record WithdrawnAs (number time : ℕ) (buys sells : List Order) (tb ts room : List ℕ) (at : ℕ) (tb' ts' room' : List ℕ) (r : Withdrawn) : Type 0 where
  pub bought : tb' ≡ table_of (buys_without number buys sells) tb
  pub sold : ts' ≡ table_of (sells_without number buys sells) ts
  pub nbuys : r.buys ≡ length (buys_without number buys sells)
  pub nsells : r.sells ≡ length (sells_without number buys sells)
  pub told : Written room at (ended time number (lots_withdrawn number buys sells) Asked ∷ []) room' r.at

-- ---- the close

-- what must be there before the day is closed: long tables, and room for all cancels and the close report
pub record Finishing (s : Session) (buys sells room : List ℕ) : Type 0 where
  pub steady : Steady s
  pub buys_long : table_length ≤ length buys
  pub sells_long : table_length ≤ length sells
  pub room_long : record_length * (slots + slots + 1) ≤ length room

-- the day was closed: both tables are empty, and the reports stand in the room
pub record ClosedAs (s : Session) (time settle : ℕ) (buys sells : List Order) (tb ts room tb' ts' room' : List ℕ) (next : ℕ) : Type 0 where
  pub bought : tb' ≡ table_of [] tb
  pub sold : ts' ≡ table_of [] ts
  pub told : Written room 0 (finished s time settle buys sells).reports room' next
