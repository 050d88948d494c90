-- Document 02, item 4, "Come back after the system kills us": what saved bytes are rebuilt to, said of days.
use Rattle.std.specs.Prelude.{ℕ, zero, suc, ◌+◌, Bool, true, false, List, [], length, drop, Ok, Err}
use Rattle.terms.specs.declared.Event.{Event}
use Rattle.terms.specs.declared.Settings.{Settings}
use Rattle.terms.specs.declared.Refusal.{Refusal}
use Rattle.terms.specs.declared.Refusal.TheVariants.{LineUnfinished, LineWrong, LineRefused}
use Rattle.terms.specs.Refusals.{Verdict}
use Rattle.terms.specs.Settings.{settings_verdict}
use Rattle.lines_text_law.specs.Grammar.{LineAnswer, whole, unfinished, wrong}
use Rattle.lines_reading_law.specs.Answers.{read_event, read_settings}
use Rattle.state_law.specs.Opening.{fixed_session}
use Rattle.state_law.specs.Day.{Day, opened}
use Rattle.engine_law.specs.Outcome.{outcome}
use Rattle.resume_law.specs.Answers.{Comeback, SavedLine, bad_at}
use Rattle.resume_law.specs.declared.Halt.{Halt}

-- what is answered, the day, and whether an event was among the saved lines, so that the tables are written
pub record Rebuilt : Type 0 where
  pub answer : Comeback
  pub moved : Bool
  pub day : Day

-- the first n bytes count, and the day is theirs
abbrev pub rebuilt : ℕ → Bool → Day → Rebuilt
rebuilt n moved d = record { answer = Ok n; moved = moved; day = d }

-- "any refusal leaves the tables as lent"; with it comes the fixed session of a refused opening
abbrev pub refused : Refusal → ℕ → Rebuilt
refused r place =
    record { answer = bad_at r place; moved = false; day = record { session = fixed_session; buys = []; sells = [] } }

-- ---- a line of an event

pub record Step : Type 0 where
  pub line : SavedLine
  pub day : Day

abbrev pub line_by : Verdict → ℕ → SavedLine
line_by (Ok _) n = Ok n
line_by (Err r) n = Err Halt.Refused

-- by how it is read; a whole line is an event on the day
abbrev pub step_of : Day → LineAnswer Event → Step
step_of d (whole e n) = record { line = line_by (outcome d e).verdict n; day = (outcome d e).day }
step_of d unfinished = record { line = Err Halt.Unfinished; day = d }
step_of d (wrong n) = record { line = Err (Halt.Wrong n); day = d }

-- how many bytes it takes
abbrev pub used_by : SavedLine → ℕ
used_by (Ok n) = n
used_by (Err h) = 0

-- it begins at a place. An applied line is followed by `more`; "drops the unfinished tail and says how many bytes count"; "then by the first
-- bad line 15, or 22 where the engine refuses it, .. with its start; places count from the first saved byte"
abbrev pub on_line : SavedLine → ℕ → Bool → Day → Rebuilt → Rebuilt
on_line (Ok n) at moved d more = more
on_line (Err Halt.Refused) at moved d more = refused LineRefused at
on_line (Err Halt.Unfinished) at moved d more = rebuilt at moved d
on_line (Err (Halt.Wrong n)) at moved d more = refused LineWrong (at + n)

-- ---- all lines: those of the bytes left, which begin at a place, on a day; up to n of them

unfoldable pub lines_from : ℕ → ℕ → Bool → Day → List ℕ → Rebuilt
lines_from zero at moved d bytes = rebuilt at moved d
lines_from (suc n) at moved d bytes =
    let t : Step = step_of d (read_event bytes) in
    on_line t.line at moved d (lines_from n (at + used_by t.line) true t.day (drop (used_by t.line) bytes))

-- ---- the settings: "22 where the engine refuses it, settings included"

abbrev pub trading_by : Verdict → Settings → ℕ → List ℕ → Rebuilt
trading_by (Ok _) g n bytes = lines_from (length bytes) n false (opened g) (drop n bytes)
trading_by (Err r) g n bytes = refused LineRefused 0

-- "Without a whole settings line no session comes back: 14, or 15 where the bytes begin none."
abbrev pub settled_by : LineAnswer Settings → List ℕ → Rebuilt
settled_by (whole g n) bytes = trading_by (settings_verdict g) g n bytes
settled_by unfinished bytes = refused LineUnfinished 0
settled_by (wrong n) bytes = refused LineWrong n

-- WHAT SAVED BYTES COME BACK AS
unfoldable pub resumed : List ℕ → Rebuilt
resumed bytes = settled_by (read_settings bytes) bytes
