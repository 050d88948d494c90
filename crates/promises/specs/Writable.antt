-- EVERY REPORT CAN BE WRITTEN: no number in it is "above 999,999,999", so it has a line and is never refused for a number.
use Rattle.std.specs.Prelude.{◌≡◌, true, List, ◌∷◌, ◌++◌, length}
use Rattle.terms.specs.declared.Settings.{Settings}
use Rattle.terms.specs.declared.Event.{Event}
use Rattle.terms.specs.declared.Report.{Report}
use Rattle.state_law.specs.Day.{Day, opened}
use Rattle.engine_law.specs.Outcome.{outcome, told}
use Rattle.lines_text_law.specs.Numerals.{all_writable}
use Rattle.lines_writing_law.specs.Lines.{report_figures}

-- each of these reports can be written
abbrev pub AllWritable : List Report → Type 0
AllWritable rs = (before later : List Report) (r : Report) → rs ≡ before ++ (r ∷ later) → all_writable (report_figures r) ≡ true

-- for any event on any day, sound or not, if the session's array of prices has its ten places
abbrev pub ReportsWritable : Type 0
ReportsWritable = (d : Day) (e : Event) → length d.session.tape.prices ≡ 10 → AllWritable (outcome d e).reports

-- for any run from an opening
abbrev pub RunsWritable : Type 0
RunsWritable = (g : Settings) (es : List Event) → AllWritable (told (opened g) es)
