-- The calls on a session and lent numbers: what each answers, and what it leaves.
use Rattle.std.specs.Prelude.{ℕ, ◌≤◌, ◌≡◌, Bool, cond, List, [], ◌∷◌, leb, ltb, length, Ok, Err}
use Rattle.terms.specs.declared.Act.{Act}
use Rattle.terms.specs.declared.Event.{Event}
use Rattle.terms.specs.declared.Order.{Order}
use Rattle.terms.specs.declared.Refusal.TheVariants.{SmallRoom}
use Rattle.terms.specs.declared.Side.{Side}
use Rattle.terms.specs.Truth.{◌⊓◌}
use Rattle.tables.specs.Lengths.{table_length, room_length}
use Rattle.tables.specs.Records.{records_of}
use Rattle.terms.specs.Refusals.{Verdict, unless, first_failed}
use Rattle.tables.specs.Put.{put}
use Rattle.tables.specs.Tables.{table_of}
use Rattle.book_law.specs.View.{view_of}
use Rattle.state_law.specs.declared.Session.{Session}
use Rattle.soundness_law.specs.Sound.{sound, day_in}
use Rattle.refusal_law.specs.Refusals.{rules, refusal_of}
use Rattle.acts_law.specs.Acts.{Acted, act}
use Rattle.engine_law.specs.Answers.{Answer}
use Rattle.engine_law.specs.declared.Applied.{Applied}
use Rattle.engine_law.specs.Outcome.{Outcome, decided}

-- row 1 does not apply: "a table under .. numbers, or report room under .."
unfoldable pub roomy : List ℕ → List ℕ → List ℕ → Bool
roomy buys sells room = leb table_length (length buys) ⊓ leb table_length (length sells) ⊓ leb room_length (length room)

-- both tables are long enough
pub record LongTables (buys sells : List ℕ) : Type 0 where
  pub buys_long : table_length ≤ length buys
  pub sells_long : table_length ≤ length sells

-- the tables and the room are
pub record LongEnough (buys sells room : List ℕ) : Type 0 where
  pub buys_long : table_length ≤ length buys
  pub sells_long : table_length ≤ length sells
  pub room_long : room_length ≤ length room

-- the verdict by rows 1 to 11, the first that applies
unfoldable pub call_verdict : Session → Event → List ℕ → List ℕ → List ℕ → Verdict
call_verdict s e buys sells room = first_failed (unless SmallRoom (roomy buys sells room) ∷ rules (day_in s buys sells) e)

-- the outcome of a call, on the day that the session and the tables hold
unfoldable pub called : Session → Event → List ℕ → List ℕ → List ℕ → Outcome
called s e buys sells room = decided (call_verdict s e buys sells room) (day_in s buys sells) (act (day_in s buys sells) e)

-- "The count of reports is returned"; "All refusals return the number and the session given"
abbrev pub answer_by : Verdict → ℕ → Answer
answer_by (Ok _) count = Ok count
answer_by (Err r) count = Err r

-- "After acceptance the rest .. is zero and everything past it is untouched"; a refusal writes nothing
abbrev pub table_by : Verdict → List Order → List ℕ → List ℕ
table_by (Ok _) os t = table_of os t
table_by (Err r) os t = t

-- THE CONTRACT of `apply`: answer, session, both tables and the room, each by an equation. "Numbers past the last report are untouched."
pub record AppliedAs (s : Session) (e : Event) (buys sells room buys' sells' room' : List ℕ) (r : Applied) : Type 0 where
  pub answer : r.answer ≡ answer_by (called s e buys sells room).verdict (length (called s e buys sells room).reports)
  pub session : r.session ≡ (called s e buys sells room).day.session
  pub bought : buys' ≡ table_by (called s e buys sells room).verdict (called s e buys sells room).day.buys buys
  pub sold : sells' ≡ table_by (called s e buys sells room).verdict (called s e buys sells room).day.sells sells
  pub told : room' ≡ put room 0 (records_of (called s e buys sells room).reports)

-- ---- an event that no row refuses

abbrev pub event_at : ℕ → Act → Event
event_at time act = record { time = time; act = act }

pub record Ready (s : Session) (time : ℕ) (a : Act) (buys sells room : List ℕ) : Type 0 where
  pub fine : refusal_of (day_in s buys sells) (event_at time a) ≡ Ok tt
  pub buys_long : table_length ≤ length buys
  pub sells_long : table_length ≤ length sells
  pub room_long : room_length ≤ length room

-- what an accepted event leaves: answer, session, both tables and the room, each by an equation
pub record ActedAs (a : Acted) (buys sells room buys' sells' room' : List ℕ) (r : Applied) : Type 0 where
  pub answer : r.answer ≡ Ok (length a.reports)
  pub session : r.session ≡ a.day.session
  pub bought : buys' ≡ table_of a.day.buys buys
  pub sold : sells' ≡ table_of a.day.sells sells
  pub told : room' ≡ put room 0 (records_of a.reports)

-- ---- the view

-- "The view of a side gives back the live part of the buy table or of the sell table, whichever side was named; for a session that is
-- not sound, or a short table, its result is the empty part."
unfoldable pub view_call : Side → Session → List ℕ → List ℕ → List ℕ
view_call side s buys sells =
    cond (ltb (length buys) table_length) []
    (cond (ltb (length sells) table_length) []
    (cond (sound (day_in s buys sells)) (view_of side buys sells s.live.buys s.live.sells) []))
