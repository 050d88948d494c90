-- THE CALLS THAT WRITE A LINE from numbers: what each call answers, and what it leaves in the line room.
use Rattle.std.specs.Prelude.{ℕ, ◌≤◌, ◌≡◌, cond, List, [], ltb, length, get_or, Option, Some, None, Ok, Err, Result}
use Rattle.terms.specs.declared.Event.{Event}
use Rattle.terms.specs.declared.Refusal.{Refusal}
use Rattle.terms.specs.declared.Refusal.TheVariants.{SmallRoom, NumberRange, SettingsRange}
use Rattle.terms.specs.declared.Report.{Report}
use Rattle.terms.specs.Refusals.{Verdict}
use Rattle.tables.specs.Lengths.{record_length}
use Rattle.lines_reading_law.specs.Lines.{render_event, render_settings, event_figures, settings_figures}
use Rattle.lines_writing_law.specs.Lines.{render_report, report_figures}
use Rattle.lines_writing_law.specs.Writes.{line_verdict, room_of}
use Rattle.records_law.specs.Back.{report_in}
use Rattle.desk_packing_law.specs.Runs.{settings_length, event_length}
use Rattle.desk_packing_law.specs.Settings.{is_category, settings_from}
use Rattle.desk_packing_law.specs.Events.{found_in, event_from}
use Rattle.desk_packing_law.specs.Answers.{count_most, answer_of}

-- ---- a writer's answer as a number

abbrev pub wrote_number : Result ℕ Refusal → ℕ
wrote_number (Ok n) = answer_of (Ok tt) n
wrote_number (Err r) = answer_of (Err r) 0

-- a line that was written has no more bytes than an answer can count
abbrev pub Few : Result ℕ Refusal → Type 0
Few (Ok n) = n ≤ count_most
Few (Err r) = Unit

-- the contract of a writing call: the line is written where the verdict is fine; a refusal writes nothing
pub record WrittenOn (v : Verdict) (line room room' : List ℕ) (r : ℕ) : Type 0 where
  pub answer : r ≡ answer_of v (length line)
  pub laid : room' ≡ room_of v line room

-- ---- settings: 1 if the slice is too short, 12 if the category is none, then 16 and 17

unfoldable pub settings_verdict_on : List ℕ → List ℕ → Verdict
settings_verdict_on run room =
    cond (ltb (length run) settings_length) (Err SmallRoom)
    (cond (is_category (get_or run 0 0)) (line_verdict room (settings_figures (settings_from run))) (Err SettingsRange))

abbrev pub SettingsWrittenOn : List ℕ → List ℕ → List ℕ → ℕ → Type 0
SettingsWrittenOn run room room' r = WrittenOn (settings_verdict_on run room) (render_settings (settings_from run)) room room' r

-- ---- an event: 1 if the slice is too short, 4 if the numbers are no event's, then 16 and 17

abbrev pub found_verdict : Option Event → List ℕ → Verdict
found_verdict (Some e) room = line_verdict room (event_figures e)
found_verdict None room = Err NumberRange

unfoldable pub event_verdict_on : List ℕ → List ℕ → Verdict
event_verdict_on run room = cond (ltb (length run) event_length) (Err SmallRoom) (found_verdict (found_in run) room)

abbrev pub EventWrittenOn : List ℕ → List ℕ → List ℕ → ℕ → Type 0
EventWrittenOn run room room' r = WrittenOn (event_verdict_on run room) (render_event (event_from run)) room room' r

-- ---- a report, from its record: 1 if the slice is too short, then 16 and 17. For numbers that are no report's no line is written

abbrev pub told_verdict : Option Report → List ℕ → Verdict
told_verdict (Some p) room = line_verdict room (report_figures p)
told_verdict None room = line_verdict room []

abbrev pub told_line : Option Report → List ℕ
told_line (Some p) = render_report p
told_line None = []

unfoldable pub report_verdict_on : List ℕ → List ℕ → Verdict
report_verdict_on run room = cond (ltb (length run) record_length) (Err SmallRoom) (told_verdict (report_in run) room)

abbrev pub ReportWrittenOn : List ℕ → List ℕ → List ℕ → ℕ → Type 0
ReportWrittenOn run room room' r = WrittenOn (report_verdict_on run room) (told_line (report_in run)) room room' r
