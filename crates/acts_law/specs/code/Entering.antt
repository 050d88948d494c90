-- What code finds and leaves in the lent numbers when an order comes in.
use Rattle.std.specs.Prelude.{ℕ, ◌+◌, ◌*◌, ◌≤◌, ◌<◌, ◌≡◌, List, ◌∷◌, length, drop}
use Rattle.terms.specs.declared.Entry.{Entry}
use Rattle.terms.specs.declared.Order.{Order}
use Rattle.terms.specs.declared.Report.{Report}
use Rattle.terms.specs.declared.Band.{Band}
use Rattle.terms.specs.declared.Life.TheVariants.{AllDay}
use Rattle.terms.specs.declared.Said.TheVariants.{Accept}
use Rattle.terms.specs.Sizes.{slots, numbers_most}
use Rattle.tables.specs.Lengths.{record_length}
use Rattle.rules_law.specs.Reference.{RangeFits}
use Rattle.tables.specs.Tables.{decode, table_of, Holds}
use Rattle.matching_law.specs.declared.Incoming.{Incoming}
use Rattle.book_law.specs.Over.{Each}
use Rattle.book_law.specs.Matching.{report_at, trade_reports, own_last_or, settled}
use Rattle.state_law.specs.declared.Session.{Session}
use Rattle.state_law.specs.Set.{set_given}
use Rattle.state_law.specs.Now.{Clocked, band_now, range_now}
use Rattle.state_law.specs.Trades.{with_trades, TradesFit}
use Rattle.acts_law.specs.declared.Crossed.{Crossed}
use Rattle.acts_law.specs.declared.Met.{Met}
use Rattle.acts_law.specs.declared.Entered.{Entered}
use Rattle.acts_law.specs.Acts.{last_in, sweep_in, fate_in, entered}
use Rattle.acts_law.specs.code.Written.{Written, Deals, fills_at, Remembering}

-- the order as it meets the counter side
abbrev pub incoming_in : Session → Entry → ℕ → Incoming
incoming_in s n number =
    record { side = n.side; kind = n.kind; range = range_now s; number = number; lots = n.lots; time = s.clock.time; last = last_in s }

-- what an order must find to be matched; the room must hold the accept report and a trade with each counter order
pub record Meeting (s : Session) (band : Band) (count : ℕ) (t room : List ℕ) (at : ℕ) : Type 0 where
  pub banded : band ≡ band_now s
  pub given_few : s.live.given < numbers_most
  pub ranged : RangeFits (range_now s)
  pub holds : Holds count t
  pub space : at + record_length * (count + 1) ≤ length room
  pub fits : TradesFit s count
  pub deals : Each Deals (decode count t)

-- the accept report, and the reports of the trades behind it
abbrev pub accepted_reports : Session → Entry → List Order → List Report
accepted_reports s n os =
    report_at s.clock.time (Accept (s.live.given + 1)) ∷ trade_reports s.clock.time n.side (s.live.given + 1) (sweep_in s n os).fills

-- the table across and the room after the trades; from their records a session can remember the trades, and they are those that were made
pub record CrossedAs (s : Session) (n : Entry) (os : List Order) (t room : List ℕ) (at : ℕ) (t' room' : List ℕ) (r : Crossed) : Type 0 where
  pub book : t' ≡ table_of (sweep_in s n os).rest t
  pub count : r.matched.count ≡ length (sweep_in s n os).rest
  pub told : Written room at (accepted_reports s n os) room' r.matched.at
  pub fits : at + record_length * length (accepted_reports s n os) ≤ length room
  pub left : r.matched.left ≡ (sweep_in s n os).left
  pub last : r.matched.last ≡ own_last_or (last_in s) (sweep_in s n os).fills
  pub out : r.matched.out ≡ (sweep_in s n os).out
  pub few : r.matched.at ≤ at + record_length * (length os + 1)
  pub remembers : Remembering (set_given s (s.live.given + 1)) (band_now s) room' r.first r.matched.trades
  pub recalled : with_trades (set_given s (s.live.given + 1)) (fills_at r.matched.trades (drop r.first room')) ≡ with_trades (set_given s (s.live.given + 1)) (sweep_in s n os).fills

-- the table across, the room and the answer after the order has met the counter side
pub record MetAs (s : Session) (n : Entry) (os : List Order) (t room : List ℕ) (at : ℕ) (t' room' : List ℕ) (r : Met) : Type 0 where
  pub book : t' ≡ table_of (sweep_in s n os).rest t
  pub count : r.count ≡ length (sweep_in s n os).rest
  pub told : Written room at (accepted_reports s n os) room' r.at
  pub fits : at + record_length * length (accepted_reports s n os) ≤ length room
  pub session : r.session ≡ with_trades (set_given s (s.live.given + 1)) (sweep_in s n os).fills
  pub left : r.left ≡ (sweep_in s n os).left
  pub last : r.last ≡ own_last_or (last_in s) (sweep_in s n os).fills
  pub out : r.out ≡ (sweep_in s n os).out
  pub few : r.at ≤ at + record_length * (length os + 1)

-- ---- an order from its acceptance to its remainder: what it must find, and what it leaves

pub record Entering (s : Session) (n : Entry) (nmine : ℕ) (mine : List ℕ) (ntheirs : ℕ) (theirs room : List ℕ) (at : ℕ) : Type 0 where
  pub clocked : Clocked s
  pub given_few : s.live.given < numbers_most
  pub holds_mine : Holds nmine mine
  pub holds_theirs : Holds ntheirs theirs
  pub place : n.life ≡ AllDay → nmine < slots
  pub space : at + record_length * (ntheirs + 2) ≤ length room
  pub fits : TradesFit s ntheirs
  pub deals : Each Deals (decode ntheirs theirs)

pub record EnteredAs (s : Session) (n : Entry) (own across : List Order) (mine theirs room : List ℕ) (at : ℕ) (mine' theirs' room' : List ℕ) (r : Entered) : Type 0 where
  pub booked : mine' ≡ table_of (settled n.side (s.live.given + 1) (sweep_in s n across).left (fate_in s n (sweep_in s n across)) own) mine
  pub countered : theirs' ≡ table_of (sweep_in s n across).rest theirs
  pub nmine : r.mine ≡ length (settled n.side (s.live.given + 1) (sweep_in s n across).left (fate_in s n (sweep_in s n across)) own)
  pub ntheirs : r.theirs ≡ length (sweep_in s n across).rest
  pub session : r.session ≡ with_trades (set_given s (s.live.given + 1)) (sweep_in s n across).fills
  pub told : Written room at (entered s n own (sweep_in s n across)).reports room' r.at
