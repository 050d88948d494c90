-- What the lines of a run act on: a day, as the paper speaks of it; or a session with lent numbers, as a call has it.
use Rattle.std.specs.Prelude.{ℕ, List, []}
use Rattle.terms.specs.declared.Event.{Event}
use Rattle.terms.specs.declared.Report.{Report}
use Rattle.terms.specs.Refusals.{Verdict}
use Rattle.tables.specs.Records.{records_of}
use Rattle.tables.specs.Put.{put}
use Rattle.state_law.specs.declared.Session.{Session}
use Rattle.state_law.specs.Day.{Day}
use Rattle.engine_law.specs.Outcome.{Outcome, outcome}
use Rattle.engine_law.specs.Calls.{called, table_by}

-- what a run needs of what it acts on: an opening puts its session in; an event is judged, has its reports, and leads to the next state
pub record World (W : Type 0) : Type 0 where
  pub opened : W → Session → W
  pub verdict : W → Event → Verdict
  pub reports : W → Event → List Report
  pub next : W → Event → W

-- ---- days

unfoldable pub days : World Day
days =
    record {
      opened = λ d s. record { session = s; buys = []; sells = [] };
      verdict = λ d e. (outcome d e).verdict;
      reports = λ d e. (outcome d e).reports;
      next = λ d e. (outcome d e).day;
    }

-- ---- a session, both tables and the report room, as `engine::apply` is handed them

pub record Lent : Type 0 where
  pub session : Session
  pub buys : List ℕ
  pub sells : List ℕ
  pub room : List ℕ

abbrev pub lent_of : Session → List ℕ → List ℕ → List ℕ → Lent
lent_of s buys sells room = record { session = s; buys = buys; sells = sells; room = room }

abbrev pub call_on : Lent → Event → Outcome
call_on l e = called l.session e l.buys l.sells l.room

-- "An opening touches no table". An event leaves what the contract of `apply` says.
unfoldable pub calls : World Lent
calls =
    record {
      opened = λ l s. lent_of s l.buys l.sells l.room;
      verdict = λ l e. (call_on l e).verdict;
      reports = λ l e. (call_on l e).reports;
      next = λ l e.
          lent_of (call_on l e).day.session
          (table_by (call_on l e).verdict (call_on l e).day.buys l.buys)
          (table_by (call_on l e).verdict (call_on l e).day.sells l.sells)
          (put l.room 0 (records_of (call_on l e).reports));
    }
