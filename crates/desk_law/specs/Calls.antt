-- THE CALLS ON A SESSION, on numbers that an app keeps: what each call answers, and what it leaves in every lent slice.
use Rattle.std.specs.Prelude.{ℕ, ◌≤◌, ◌≡◌, cond, List, [], ltb, eqb, length, get_or, Ok, Err}
use Rattle.terms.specs.declared.Event.{Event}
use Rattle.terms.specs.declared.Refusal.TheVariants.{SmallRoom, Unsound, SettingsRange}
use Rattle.terms.specs.declared.Side.TheVariants.{Buy, Sell}
use Rattle.terms.specs.Refusals.{Verdict}
use Rattle.tables.specs.Lengths.{table_length}
use Rattle.tables.specs.Records.{records_of}
use Rattle.tables.specs.Put.{put}
use Rattle.state_law.specs.declared.Session.{Session}
use Rattle.state_law.specs.declared.Opened.{Opened}
use Rattle.state_law.specs.Opening.{opening_of, fixed_session}
use Rattle.soundness_law.specs.Sound.{sound, day_in}
use Rattle.engine_law.specs.Answers.{Answer}
use Rattle.engine_law.specs.declared.Applied.{Applied}
use Rattle.engine_law.specs.Outcome.{Outcome}
use Rattle.engine_law.specs.Calls.{roomy, called, table_by, AppliedAs, view_call}
use Rattle.desk_packing_law.specs.Runs.{settings_length, session_length, event_length}
use Rattle.desk_packing_law.specs.Settings.{is_category, settings_from}
use Rattle.desk_packing_law.specs.Sessions.{flag, session_numbers, session_from}
use Rattle.desk_packing_law.specs.Events.{event_from}
use Rattle.desk_packing_law.specs.Answers.{count_most, answer_of}

-- `long` where both slices have the length that they need, `short` where one has not
abbrev pub where_long : {A : Type 0} → List ℕ → ℕ → List ℕ → ℕ → A → A → A
where_long xs n ys m long short = cond (ltb (length xs) n) short (cond (ltb (length ys) m) short long)

-- ---- open

-- settings whose category is above 7 are out of range; others are opened: "a refused one returns its number and one fixed session"
unfoldable pub opened_from : List ℕ → Opened
opened_from gs = cond (is_category (get_or gs 0 0)) (opening_of (settings_from gs)) (record { verdict = Err SettingsRange; session = fixed_session })

-- a slice that is too short is answered 1, as a short table, and nothing is written
pub record OpenedAs (gs run run' : List ℕ) (r : ℕ) : Type 0 where
  pub answer : r ≡ answer_of (where_long gs settings_length run session_length (opened_from gs).verdict (Err SmallRoom)) 0
  pub laid : run' ≡ where_long gs settings_length run session_length (put run 0 (session_numbers (opened_from gs).session)) run

-- ---- apply

-- what an event comes to on the day that the numbers hold; a slice that is too short is answered as a short table
unfoldable pub called_on : List ℕ → List ℕ → List ℕ → List ℕ → List ℕ → Outcome
called_on run event buys sells room =
    where_long run session_length event event_length
    (called (session_from run) (event_from event) buys sells room)
    (record { verdict = Err SmallRoom; day = day_in (session_from run) buys sells; reports = [] })

-- the verdict on numbers that are no session's: 1, "a table under .. numbers", or 2, "session not sound"
unfoldable pub strange_verdict : List ℕ → List ℕ → List ℕ → Verdict
strange_verdict buys sells room = cond (roomy buys sells room) (Err Unsound) (Err SmallRoom)

-- the session's numbers afterwards: an accepted event writes them anew; "All refusals return the number and the session given, and write nothing."
abbrev pub run_by : Verdict → Session → List ℕ → List ℕ
run_by (Ok _) s run = put run 0 (session_numbers s)
run_by (Err r) s run = run

-- the answer, and the session's numbers, both tables and the room afterwards, given what the event comes to
pub record LeftBy (o : Outcome) (run buys sells room run' buys' sells' room' : List ℕ) (r : ℕ) : Type 0 where
  pub answer : r ≡ answer_of o.verdict (length o.reports)
  pub kept : run' ≡ run_by o.verdict o.day.session run
  pub bought : buys' ≡ table_by o.verdict o.day.buys buys
  pub sold : sells' ≡ table_by o.verdict o.day.sells sells
  pub told : room' ≡ put room 0 (records_of o.reports)

abbrev pub AppliedOn : List ℕ → List ℕ → List ℕ → List ℕ → List ℕ → List ℕ → List ℕ → List ℕ → List ℕ → ℕ → Type 0
AppliedOn run event buys sells room run' buys' sells' room' r = LeftBy (called_on run event buys sells room) run buys sells room run' buys' sells' room' r

-- the engine's answer as a number
abbrev pub applied_number : Answer → ℕ
applied_number (Ok count) = answer_of (Ok tt) count
applied_number (Err r) = answer_of (Err r) 0

-- it counts few reports
abbrev pub FewReported : Answer → Type 0
FewReported (Ok count) = count ≤ count_most
FewReported (Err r) = Unit

-- the session's run by the engine's answer
abbrev pub run_for : Answer → Session → List ℕ → List ℕ
run_for (Ok count) s run = put run 0 (session_numbers s)
run_for (Err r) s run = run

pub record LaidApplied (a : Applied) (run run' : List ℕ) (r : ℕ) : Type 0 where
  pub answer : r ≡ applied_number a.answer
  pub kept : run' ≡ run_for a.answer a.session run

-- an event on a session, with the run that the session is laid into
pub record CarriedAs (s : Session) (e : Event) (run buys sells room run' buys' sells' room' : List ℕ) (r : ℕ) : Type 0 where
  pub applied : Applied
  pub came : AppliedAs s e buys sells room buys' sells' room' applied
  pub laid : LaidApplied applied run run' r

-- ---- sound

-- 1 if the session is sound; 0 if not, or if a slice is too short
unfoldable pub sound_on : List ℕ → List ℕ → List ℕ → ℕ
sound_on run buys sells =
    cond (ltb (length run) session_length) 0
    (where_long buys table_length sells table_length (flag (sound (day_in (session_from run) buys sells))) 0)

-- ---- view

-- the length of the view, which starts at number 0 of the named table (1 buy, 2 sell; 0 for any other number)
unfoldable pub view_on : ℕ → List ℕ → List ℕ → List ℕ → ℕ
view_on side run buys sells =
    cond (ltb (length run) session_length) 0
    (cond (eqb side 1) (length (view_call Buy (session_from run) buys sells))
    (cond (eqb side 2) (length (view_call Sell (session_from run) buys sells)) 0))
