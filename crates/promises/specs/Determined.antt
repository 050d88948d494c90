-- DETERMINACY: a contract allows one result for one input. Two results of a call coincide, with every lent number.
use Rattle.std.specs.Prelude.{ℕ, ◌≡◌, List, Option, Result}
use Rattle.terms.specs.declared.Refusal.{Refusal}
use Rattle.terms.specs.declared.Settings.{Settings}
use Rattle.terms.specs.declared.Event.{Event}
use Rattle.terms.specs.declared.Report.{Report}
use Rattle.terms.specs.declared.Side.{Side}
use Rattle.terms.specs.Refusals.{Verdict}
use Rattle.terms.specs.Settings.{settings_verdict}
use Rattle.state_law.specs.declared.Session.{Session}
use Rattle.state_law.specs.declared.Opened.{Opened}
use Rattle.state_law.specs.Opening.{opening_of}
use Rattle.engine_law.specs.declared.Applied.{Applied}
use Rattle.engine_law.specs.declared.Stood.{Stood}
use Rattle.engine_law.specs.Calls.{AppliedAs, view_call}
use Rattle.engine_law.specs.Standings.{standing_call}
use Rattle.lines_reading_law.specs.Answers.{EventRead, SettingsRead}
use Rattle.lines_text_law.specs.declared.LineError.{LineError}
use Rattle.lines_text_law.specs.declared.Parsed.{Parsed}
use Rattle.lines_text_law.specs.Reading.{answered}
use Rattle.records_law.specs.Back.{RecordRead}
use Rattle.lines_writing_law.specs.Writes.{Writes}
use Rattle.feed_law.specs.declared.Run.{Run}
use Rattle.feed_law.specs.declared.Taken.{Taken}
use Rattle.feed_law.specs.Feeds.{Feed, fresh_run, TakenBy}
use Rattle.lines_reading_law.specs.Walk.{read_at}
use Rattle.resume_law.specs.declared.Resumed.{Resumed}
use Rattle.resume_law.specs.Calls.{ResumedAs, ResumedLent}

-- `terms::judge::check`
abbrev pub CheckDetermined : Type 0
CheckDetermined = (g : Settings) (r r' : Verdict) → r ≡ settings_verdict g → r' ≡ settings_verdict g → r ≡ r'

-- `state::opening::begin`
abbrev pub OpeningDetermined : Type 0
OpeningDetermined = (g : Settings) (r r' : Opened) → r ≡ opening_of g → r' ≡ opening_of g → r ≡ r'

-- `engine::looking::view`
abbrev pub ViewDetermined : Type 0
ViewDetermined =
    (side : Side) (s : Session) (buys sells r r' : List ℕ) → r ≡ view_call side s buys sells → r' ≡ view_call side s buys sells → r ≡ r'

-- `engine::standings::standing`
abbrev pub StandingDetermined : Type 0
StandingDetermined =
    (s : Session) (buys sells : List ℕ) (r r' : Stood) → r ≡ standing_call s buys sells → r' ≡ standing_call s buys sells → r ≡ r'

-- all that a call of `engine::apply` answers and leaves
pub record Coincide (buys sells room buys' sells' room' : List ℕ) (r r' : Applied) : Type 0 where
  pub answer : r.answer ≡ r'.answer
  pub session : r.session ≡ r'.session
  pub bought : buys ≡ buys'
  pub sold : sells ≡ sells'
  pub told : room ≡ room'

abbrev pub ApplyDetermined : Type 0
ApplyDetermined =
    (s : Session) (e : Event) (buys sells room buys₁ sells₁ room₁ buys₂ sells₂ room₂ : List ℕ) (r₁ r₂ : Applied) →
    AppliedAs s e buys sells room buys₁ sells₁ room₁ r₁ → AppliedAs s e buys sells room buys₂ sells₂ room₂ r₂ →
    Coincide buys₁ sells₁ room₁ buys₂ sells₂ room₂ r₁ r₂

-- `lines_reading::read_event` and `lines_reading::read_settings`
abbrev pub EventReadDetermined : Type 0
EventReadDetermined = (bytes : List ℕ) (r r' : Result (Parsed Event) LineError) → EventRead bytes r → EventRead bytes r' → r ≡ r'

abbrev pub SettingsReadDetermined : Type 0
SettingsReadDetermined = (bytes : List ℕ) (r r' : Result (Parsed Settings) LineError) → SettingsRead bytes r → SettingsRead bytes r' → r ≡ r'

-- the walker's calls: `journal::step`, `line_at`, `event_at`
abbrev pub WalkDetermined : Type 0
WalkDetermined =
    (bytes : List ℕ) (place : ℕ) (r r' : Result (Parsed Event) LineError) → answered r ≡ read_at bytes place → answered r' ≡ read_at bytes place → r ≡ r'

-- every writer of lines: the answer and each byte of the room
abbrev pub WriteDetermined : Type 0
WriteDetermined = (room line numbers room₁ room₂ : List ℕ) (r₁ r₂ : Result ℕ Refusal) → Writes room line numbers r₁ room₁ → Writes room line numbers r₂ room₂ → (r₁ ≡ r₂) × (room₁ ≡ room₂)

-- `records::read_record`
abbrev pub RecordReadDetermined : Type 0
RecordReadDetermined = (numbers : List ℕ) (r r' : Option Report) → RecordRead numbers r → RecordRead numbers r' → r ≡ r'

-- ---- text in, text out

-- `feed::start`
abbrev pub StartDetermined : Type 0
StartDetermined = (r r' : Run) → r ≡ fresh_run → r' ≡ fresh_run → r ≡ r'

pub record SameTaken (r₁ r₂ : Taken) (buys₁ sells₁ room₁ out₁ buys₂ sells₂ room₂ out₂ : List ℕ) : Type 0 where
  pub stage : r₁.run.stage ≡ r₂.run.stage
  pub session : r₁.run.session ≡ r₂.run.session
  pub used : r₁.used ≡ r₂.used
  pub wrote : r₁.wrote ≡ r₂.wrote
  pub stop : r₁.stop ≡ r₂.stop
  pub bought : buys₁ ≡ buys₂
  pub sold : sells₁ ≡ sells₂
  pub told : room₁ ≡ room₂
  pub printed : out₁ ≡ out₂

-- `feed::lines::take_lines`, with `fed_of`, and `feed::lines::take_end`, with `ended_of`
abbrev pub FeedDetermined : Type 0
FeedDetermined =
    (of : Feed) (run : Run) (buys sells room bytes out buys₁ sells₁ room₁ out₁ buys₂ sells₂ room₂ out₂ : List ℕ) (r₁ r₂ : Taken) →
    TakenBy of run buys sells room bytes out buys₁ sells₁ room₁ out₁ r₁ → TakenBy of run buys sells room bytes out buys₂ sells₂ room₂ out₂ r₂ →
    SameTaken r₁ r₂ buys₁ sells₁ room₁ out₁ buys₂ sells₂ room₂ out₂

-- `resume::resume`, and `resume::resume_lent` with its scratch
pub record SameResumed (r₁ r₂ : Resumed) (buys₁ sells₁ buys₂ sells₂ : List ℕ) : Type 0 where
  pub answer : r₁.answer ≡ r₂.answer
  pub session : r₁.session ≡ r₂.session
  pub bought : buys₁ ≡ buys₂
  pub sold : sells₁ ≡ sells₂

abbrev pub ResumeDetermined : Type 0
ResumeDetermined =
    (bytes buys sells buys₁ sells₁ buys₂ sells₂ : List ℕ) (r₁ r₂ : Resumed) → ResumedAs bytes buys sells buys₁ sells₁ r₁ →
    ResumedAs bytes buys sells buys₂ sells₂ r₂ → SameResumed r₁ r₂ buys₁ sells₁ buys₂ sells₂

abbrev pub ResumeLentDetermined : Type 0
ResumeLentDetermined =
    (bytes buys sells bought sold room buys₁ sells₁ bought₁ sold₁ room₁ buys₂ sells₂ bought₂ sold₂ room₂ : List ℕ) (r₁ r₂ : Resumed) →
    ResumedLent bytes buys sells bought sold room buys₁ sells₁ bought₁ sold₁ room₁ r₁ →
    ResumedLent bytes buys sells bought sold room buys₂ sells₂ bought₂ sold₂ room₂ r₂ →
    SameResumed r₁ r₂ buys₁ sells₁ buys₂ sells₂ × (bought₁ ≡ bought₂) × (sold₁ ≡ sold₂) × (room₁ ≡ room₂)
