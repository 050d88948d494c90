-- COMING BACK (document 02, item 4). A call of `resume::resume` on saved bytes and two tables that hold anything leaves what a run of calls
-- leaves on these tables, whose events are those that were saved. So whatever is promised of runs is promised of what follows it, with the
-- reports of the saved events, and no others, as handed out.
use Rattle.std.specs.Prelude.{ℕ, ◌+◌, ◌-◌, ◌≤◌, ◌≡◌, true, false, List, [], ◌++◌, length, take, Ok}
use Rattle.terms.specs.declared.Settings.{Settings}
use Rattle.terms.specs.declared.Entry.{Entry}
use Rattle.terms.specs.declared.Event.{Event}
use Rattle.terms.specs.declared.Act.TheVariants.{Enter}
use Rattle.terms.specs.declared.Report.{Report}
use Rattle.terms.specs.declared.Refusal.{Refusal}
use Rattle.terms.specs.declared.Refusal.TheVariants.{SmallRoom}
use Rattle.terms.specs.Settings.{settings_verdict}
use Rattle.lines_reading_law.specs.Lines.{render_settings}
use Rattle.book_law.specs.Told.{traded, cancelled}
use Rattle.state_law.specs.Opening.{opening_of, fixed_session}
use Rattle.state_law.specs.Day.{Day, opened}
use Rattle.acts_law.specs.Asked.{resting}
use Rattle.engine_law.specs.Outcome.{told}
use Rattle.engine_law.specs.Calls.{LongTables, event_at}
use Rattle.feed_law.specs.declared.Stage.{Stage}
use Rattle.feed_law.specs.Worlds.{days}
use Rattle.feed_law.specs.Saving.{saved_in, state_in}
use Rattle.resume_law.specs.Answers.{bad_at}
use Rattle.resume_law.specs.declared.Resumed.{Resumed}
use Rattle.resume_law.specs.Saved.{saved, any_event, AllAccepted, accepted_of, whole_in}
use Rattle.resume_law.specs.Rebuilt.{rebuilt, resumed}
use Rattle.resume_law.specs.Comes.{FoundAs}
use Rattle.resume_law.specs.Calls.{tables_long, ResumedAs}
use Rattle.promises.specs.Lots.{asked}
use Rattle.promises.specs.Runs.{Held, day_held, opened_on, Call, Called, number_answered, Calling, RunFrom, number_opened, ForOpenRuns, asked_over, Accounted}

-- ---- a call that comes back

-- it is handed saved bytes and two tables, answers that n bytes count, and leaves h; nothing is known of it but the contract
pub record Came (bytes buys sells : List ℕ) (n : ℕ) (h : Held) : Type 0 where
  pub answered : Resumed
  pub contract : ResumedAs bytes buys sells h.buys h.sells answered
  pub counts : answered.answer ≡ Ok n
  pub session : h.session ≡ answered.session

-- the first n bytes are the lines of settings that pass and of accepted events
pub record SavedLines (bytes : List ℕ) (n : ℕ) (g : Settings) (es : List Event) : Type 0 where
  pub settings : settings_verdict g ≡ Ok tt
  pub accepted : AllAccepted (opened g) es
  pub lines : take n bytes ≡ saved g es

-- what it leaves is what calls leave, from an opening on the same tables
abbrev pub ResumesRun : Type 0
ResumesRun =
    (bytes buys sells : List ℕ) (n : ℕ) (h : Held) → Came bytes buys sells n h →
    (g : Settings) × (es : List Event) × SavedLines bytes n g es × Calling (opened_on (opening_of g) buys sells) es (told (opened g) es) h

-- ---- any accepted run and any cut

-- g opens on two tables, and then any events come; the accepted ones are saved, and cut after k bytes. The call is handed the same tables. It
-- leaves exactly, in the session and each number of the tables, what the calls with the whole events leave.
abbrev pub ResumesExactly : Type 0
ResumesExactly =
    (g : Settings) (buys sells : List ℕ) (es : List Event) (k : ℕ) → settings_verdict g ≡ Ok tt → LongTables buys sells →
    length (render_settings g) ≤ k →
    let lines : List Event = accepted_of (opened g) es in
    let held : List Event = whole_in (k - length (render_settings g)) lines in
    (buys' sells' : List ℕ) (r : Resumed) → ResumedAs (take k (saved g lines)) buys sells buys' sells' r →
    (rs : List Report) (h : Held) → Calling (opened_on (opening_of g) buys sells) held rs h →
    (r.answer ≡ Ok (length (saved g held))) × (r.session ≡ h.session) × (buys' ≡ h.buys) × (sells' ≡ h.sells)

-- ---- a run that begins with such a call: `old` are the saved events, and then come calls with the events es, which hand out rs and leave h

pub record ResumedRun (g : Settings) (old es : List Event) (rs : List Report) (h : Held) : Type 0 where
  pub bytes : List ℕ
  pub buys : List ℕ
  pub sells : List ℕ
  pub count : ℕ
  pub held : Held
  pub came : Came bytes buys sells count held
  pub lines : SavedLines bytes count g old
  pub run : Calling held es rs h

-- it is a run from an opening that is not refused, with all of these events. "it counts those of the saved events, and no others, as handed
-- out"
abbrev pub ResumedIsRun : Type 0
ResumedIsRun =
    (g : Settings) (old es : List Event) (rs : List Report) (h : Held) → ResumedRun g old es rs h →
    (r : RunFrom g (old ++ es) (told (opened g) old ++ rs) h) × (number_opened r ≡ 0)

-- a property of every such run
abbrev pub ForResumed : (Settings → List Event → List Report → Held → Type 0) → Type 0
ForResumed P =
    (g : Settings) (old es : List Event) (rs : List Report) (h : Held) → ResumedRun g old es rs h → P g (old ++ es) (told (opened g) old ++ rs) h

-- EVERY PROMISE OVER RUNS goes on over a run that begins with a resume
abbrev pub PromisesGoOn : Type 1
PromisesGoOn = (P : Settings → List Event → List Report → Held → Type 0) → ForOpenRuns P → ForResumed P

-- "going on from there equals going on from a session never stopped with the same events": the same reports, session and live orders, whatever
-- lies in the tables
abbrev pub GoesOn : Type 0
GoesOn =
    (g : Settings) (old es : List Event) (rs rs' : List Report) (h h' : Held) → ResumedRun g old es rs h → RunFrom g (old ++ es) rs' h' →
    (rs' ≡ told (opened g) old ++ rs) × (day_held h ≡ day_held h')

-- the two promises of lots, which look into the calls of a run: what was asked for by the saved events, and by the calls since
abbrev pub ResumedKeepLots : Type 0
ResumedKeepLots =
    (g : Settings) (old es : List Event) (rs : List Report) (h : Held) (r : ResumedRun g old es rs h) (id : ℕ) →
    let all : List Report = told (opened g) old ++ rs in
    asked id (opened g) old + asked_over id r.run ≡ traded id all + cancelled id all + resting id (day_held h)

-- and every order that a call accepts after coming back
abbrev pub ResumedKeepOrders : Type 0
ResumedKeepOrders =
    (g : Settings) (old before later : List Event) (rs own rest : List Report) (held left h : Held) (c : Call) (t : ℕ) (n : Entry) →
    ResumedRun g old before rs held → (k : Called held c own left) → c.event ≡ event_at t (Enter n) → number_answered k ≡ 0 →
    Calling left later rest h → Accounted n.lots own ((told (opened g) old ++ rs) ++ (own ++ rest)) h

-- ---- the program that keeps its day in a file

-- all that it has saved after some input, and the day on which it stands then
abbrev pub saved_of : List ℕ → List ℕ
saved_of input = saved_in days (length input) Stage.Awaiting (record { session = fixed_session; buys = []; sells = [] }) input

abbrev pub day_after : List ℕ → Day
day_after input = state_in days (length input) Stage.Awaiting (record { session = fixed_session; buys = []; sells = [] }) input

-- the file is empty, since no settings have passed; or it holds the lines of settings that pass and of accepted events, and what it comes back
-- as is the day on which the program stands
pub data FileHolds (input : List ℕ) : Type 0 where
  nothing : saved_of input ≡ [] → FileHolds input
  the_day : (g : Settings) (es : List Event) → saved_of input ≡ saved g es → settings_verdict g ≡ Ok tt → AllAccepted (opened g) es →
      resumed (saved_of input) ≡ rebuilt (length (saved_of input)) (any_event es) (day_after input) → FileHolds input

-- whatever the input
abbrev pub ProgramComesBack : Type 0
ProgramComesBack = (input : List ℕ) → FileHolds input

-- what it saves of its input and where it stands then, from a day that came back on
abbrev pub saved_on : Day → List ℕ → List ℕ
saved_on d input = saved_in days (length input) Stage.Trading d input

abbrev pub state_on : Day → List ℕ → Day
state_on d input = state_in days (length input) Stage.Trading d input

-- however often it is killed: where a file comes back, the bytes of it that count and what is saved behind them come back in turn, all of them,
-- as the day on which the program stands
abbrev pub ProgramGoesOn : Type 0
ProgramGoesOn =
    (file input : List ℕ) (n : ℕ) → (resumed file).answer ≡ Ok n →
    let d : Day = (resumed file).day in
    let kept : List ℕ = take n file ++ saved_on d input in
    ((resumed kept).answer ≡ Ok (length kept)) × ((resumed kept).day ≡ state_on d input)

-- ---- refusals

-- "1 for tables, first; then by the first bad line"
abbrev pub RefusedInOrder : Type 0
RefusedInOrder =
    (bytes buys sells buys' sells' : List ℕ) (r : Resumed) → ResumedAs bytes buys sells buys' sells' r →
    (tables_long buys sells ≡ false → r.answer ≡ bad_at SmallRoom 0)
    × (tables_long buys sells ≡ true → (r.answer ≡ (resumed bytes).answer) × FoundAs bytes (resumed bytes))

-- "any refusal leaves the tables as lent"
abbrev pub RefusedAsLent : Type 0
RefusedAsLent =
    (bytes buys sells buys' sells' : List ℕ) (r : Resumed) (q : Refusal) (place : ℕ) → ResumedAs bytes buys sells buys' sells' r →
    r.answer ≡ bad_at q place → (r.session ≡ fixed_session) × (buys' ≡ buys) × (sells' ≡ sells)
