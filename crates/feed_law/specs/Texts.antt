-- Document 01, "Session lines": what the program prints.
use Rattle.std.specs.Prelude.{ℕ, zero, suc, ◌*◌, cond, List, [], ◌∷◌, ◌++◌, drop, eqb, Option, Some, None, Ok, Err}
use Rattle.terms.specs.declared.Event.{Event}
use Rattle.terms.specs.declared.Report.{Report}
use Rattle.terms.specs.declared.Refusal.{Refusal}
use Rattle.terms.specs.declared.Refusal.TheVariants.{LineUnfinished}
use Rattle.terms.specs.Refusals.{Verdict}
use Rattle.terms.specs.Sizes.{line_room}
use Rattle.tables.specs.Lengths.{reports_most, record_length}
use Rattle.lines_text_law.specs.Numerals.{all_writable}
use Rattle.lines_writing_law.specs.Lines.{report_figures, render_report, refused_figures, render_refused, bad_figures, render_bad}
use Rattle.records_law.specs.Back.{report_in}
use Rattle.feed_law.specs.declared.Stage.{Stage}

-- the most that an event can print: a line for each of its reports
abbrev pub text_most : ℕ
text_most = reports_most * line_room

-- the most that the next line can print, by where the run stands: a line about settings that are bad or refused; the reports of an event;
-- nothing
abbrev pub most_at : Stage → ℕ
most_at Stage.Awaiting = line_room
most_at Stage.Trading = text_most
most_at Stage.Over = 0

-- the text of a line: the line itself where each of its numbers can be written, else nothing
abbrev pub written : List ℕ → List ℕ → List ℕ
written numbers line = cond (all_writable numbers) line []

-- ---- reports

unfoldable pub report_text : Report → List ℕ
report_text r = written (report_figures r) (render_report r)

unfoldable pub reports_text : List Report → List ℕ
reports_text [] = []
reports_text (r ∷ rs) = report_text r ++ reports_text rs

-- ---- what is refused, and what is bad

-- "A refused event prints `t=5 say=refuse code=8` with its own time"
unfoldable pub refused_text : ℕ → Refusal → List ℕ
refused_text time r = written (refused_figures time r) (render_refused time r)

-- "a bad line prints `say=bad code=15 at=3`, the place counted from that line's start"
unfoldable pub bad_text : Refusal → ℕ → List ℕ
bad_text r place = written (bad_figures r place) (render_bad r place)

-- ---- what is printed for a line of input, by its answer

-- an event prints its reports, or its refusal
abbrev pub event_text : Event → Verdict → List Report → List ℕ
event_text e (Ok _) rs = reports_text rs
event_text e (Err r) rs = refused_text e.time r

-- settings print nothing; "refused settings print 12 or 13 with at=0"
abbrev pub settings_text : Verdict → List ℕ
settings_text (Ok _) = []
settings_text (Err r) = bad_text r 0

-- What the end of the input prints, where n bytes stand behind the last line: "Bytes after the last newline that begin a line print code=14
-- with their count; so does input with no settings line. Input that ends after a whole line prints nothing more."
abbrev pub end_text : Stage → ℕ → List ℕ
end_text Stage.Awaiting n = bad_text LineUnfinished n
end_text Stage.Trading n = cond (eqb n 0) [] (bad_text LineUnfinished n)
end_text Stage.Over n = []

-- ---- records: the lines of the first n records in a room

abbrev pub told_text : Option Report → List ℕ
told_text (Some r) = report_text r
told_text None = []

-- the line of the record that the first six numbers are, or nothing where they are no report's
unfoldable pub record_text : List ℕ → List ℕ
record_text ns = told_text (report_in ns)

unfoldable pub records_text : ℕ → List ℕ → List ℕ
records_text zero room = []
records_text (suc n) room = record_text room ++ records_text n (drop record_length room)
