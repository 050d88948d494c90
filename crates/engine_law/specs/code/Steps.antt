-- What an accepted event finds and leaves in the lent numbers, where it begins and where it ends.
use Rattle.std.specs.Prelude.{ℕ, ◌+◌, ◌/◌, ◌*◌, ◌≤◌, ◌≡◌, List, length, Ok}
use Rattle.terms.specs.declared.Entry.{Entry}
use Rattle.terms.specs.declared.Side.{Side}
use Rattle.terms.specs.declared.Side.TheVariants.{Buy, Sell}
use Rattle.terms.specs.Sizes.{slots}
use Rattle.tables.specs.Lengths.{record_length, table_length}
use Rattle.tables.specs.Tables.{decode, table_of, Holds}
use Rattle.state_law.specs.declared.Session.{Session}
use Rattle.state_law.specs.Set.{set_buys, set_sells, set_under}
use Rattle.state_law.specs.Now.{Clocked}
use Rattle.state_law.specs.Clock.{clock_step}
use Rattle.acts_law.specs.Acts.{clock_reports}
use Rattle.acts_law.specs.declared.Entered.{Entered}
use Rattle.acts_law.specs.declared.Withdrawn.{Withdrawn}
use Rattle.acts_law.specs.code.Written.{Written, RestsIn, WithdrawnAs}
use Rattle.acts_law.specs.code.Entering.{Entering, EnteredAs}
use Rattle.engine_law.specs.declared.Applied.{Applied}
use Rattle.engine_law.specs.declared.Begun.{Begun}

-- the answer: the session with its live counts, and how many reports end at that place of the room
abbrev pub done_at : Session → ℕ → ℕ → ℕ → Applied
done_at s nbuys nsells at = record { answer = Ok (at / record_length); session = set_sells (set_buys s nbuys) nsells }

-- what must be there before the clock steps from old to s are reported; and what they leave, with the tables' tails cleared
pub record Stepping (old s : Session) (buys sells room : List ℕ) : Type 0 where
  pub clocked : Clocked s
  pub buys_few : old.live.buys ≤ slots
  pub sells_few : old.live.sells ≤ slots
  pub buys_long : table_length ≤ length buys
  pub sells_long : table_length ≤ length sells
  pub room_long : record_length * 2 ≤ length room

pub record SteppedAs (old s : Session) (buys sells room buys' sells' room' : List ℕ) (next : ℕ) : Type 0 where
  pub bought : buys' ≡ table_of (decode old.live.buys buys) buys
  pub sold : sells' ≡ table_of (decode old.live.sells sells) sells
  pub told : Written room 0 (clock_reports old s) room' next

-- what must be there before an event at time t begins, if it is not the close
pub record Begins (s : Session) (t : ℕ) (buys sells room : List ℕ) : Type 0 where
  pub clocked : Clocked s
  pub forward : s.clock.time ≤ t
  pub after : Clocked (clock_step s t)
  pub buys_long : table_length ≤ length buys
  pub sells_long : table_length ≤ length sells
  pub room_long : record_length * 2 ≤ length room

-- such an event has begun
pub record BegunAs (s : Session) (t : ℕ) (buys sells room buys' sells' room' : List ℕ) (b : Begun) : Type 0 where
  pub could : Begins s t buys sells room
  pub session : b.session ≡ clock_step s t
  pub stepped : SteppedAs s b.session buys sells room buys' sells' room' b.at

-- ---- behind the clock steps

-- an order's answer: its own side's count is that of the buys or that of the sells
abbrev pub done_on : Side → Entered → Applied
done_on Buy f = done_at f.session f.mine f.theirs f.at
done_on Sell f = done_at f.session f.theirs f.mine f.at

-- an order was carried out on its own side's table and on the one across
pub record OrderedAs (side : Side) (s : Session) (n : Entry) (nmine : ℕ) (mine : List ℕ) (ntheirs : ℕ) (theirs room : List ℕ) (at : ℕ)
    (mine' theirs' room' : List ℕ) (r : Applied) : Type 0 where
  pub order : Entered
  pub entered : EnteredAs s n (decode nmine mine) (decode ntheirs theirs) mine theirs room at mine' theirs' room' order
  pub answer : r ≡ done_on side order

-- what a buy or a sell must find in its own side's table and the one across, said of the buys' table and the sells'
pub record EntersOn (s : Session) (n : Entry) (nbuys : ℕ) (buys : List ℕ) (nsells : ℕ) (sells room : List ℕ) (at : ℕ) : Type 0 where
  pub a_buy : n.side ≡ Buy → Entering s n nbuys buys nsells sells room at
  pub a_sell : n.side ≡ Sell → Entering s n nsells sells nbuys buys room at

-- what a buy or a sell leaves in its own side's table and the one across, said of the buys' table and the sells'
pub record OrderedOn (s : Session) (n : Entry) (nbuys : ℕ) (buys : List ℕ) (nsells : ℕ) (sells room : List ℕ) (at : ℕ)
    (buys' sells' room' : List ℕ) (r : Applied) : Type 0 where
  pub a_buy : n.side ≡ Buy → OrderedAs Buy s n nbuys buys nsells sells room at buys' sells' room' r
  pub a_sell : n.side ≡ Sell → OrderedAs Sell s n nsells sells nbuys buys room at sells' buys' room' r

-- the clock steps were made, and at most the underlying was set
pub record QuietAs (s : Session) (t under : ℕ) (buys sells room buys' sells' room' : List ℕ) (r : Applied) : Type 0 where
  pub begun : Begun
  pub began : BegunAs s t buys sells room buys' sells' room' begun
  pub answer : r ≡ done_at (set_under begun.session under) s.live.buys s.live.sells begun.at

-- what a cancel must find: an order that rests on one of the sides, and room for a report; and what it leaves
pub record Withdrawing (number nbuys : ℕ) (buys : List ℕ) (nsells : ℕ) (sells room : List ℕ) (at : ℕ) : Type 0 where
  pub holds_buys : Holds nbuys buys
  pub holds_sells : Holds nsells sells
  pub space : at + record_length ≤ length room
  pub rests : RestsIn number (decode nbuys buys) (decode nsells sells)

pub record CancelledAs (number time : ℕ) (s : Session) (nbuys : ℕ) (buys : List ℕ) (nsells : ℕ) (sells room : List ℕ) (at : ℕ)
    (buys' sells' room' : List ℕ) (r : Applied) : Type 0 where
  pub cancel : Withdrawn
  pub withdrawn : WithdrawnAs number time (decode nbuys buys) (decode nsells sells) buys sells room at buys' sells' room' cancel
  pub answer : r ≡ done_at s cancel.buys cancel.sells cancel.at
