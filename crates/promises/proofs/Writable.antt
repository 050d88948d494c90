-- Every report can be written: the numbers of its line are among those of its record, and these are small enough.
use mathlib.Core.Path.{◌≡◌, refl, subst}
use mathlib.Core.Bool.{true}
use mathlib.Core.List.{List, [], ◌∷◌, ◌++◌}
use Rattle.terms.specs.declared.Event.{Event}
use Rattle.terms.specs.declared.Report.{Report}
use Rattle.tables.specs.Records.{fields_of, record_of}
use Rattle.state_law.specs.Opening.{opened_session}
use Rattle.state_law.specs.code.Tens.{Ten}
use Rattle.state_law.specs.Day.{Day, opened}
use Rattle.acts_law.specs.Small.{SmallReport, SmallReports}
use Rattle.acts_law.proofs.Small.{append-small}
use Rattle.engine_law.specs.Outcome.{outcome, told}
use Rattle.engine_law.proofs.Kept.{outcome-small, outcome_ten}
use Rattle.lines_text_law.specs.Numerals.{all_writable}
use Rattle.lines_text_law.specs.Forms.{holes}
use Rattle.lines_text_law.proofs.Fills.{writable-take, writable_tested}
use Rattle.lines_writing_law.specs.Lines.{said_form, report_figures}
use Rattle.promises.specs.Writable.{AllWritable, ReportsWritable, RunsWritable}

pub report_writable : (r : Report) → SmallReport r → all_writable (report_figures r) ≡ true
unfolding record_of
report_writable r h =
    let x = r.said in
    writable_tested (report_figures r) (h.1.0, writable-take (holes (said_form x)) (fields_of x) h.1.1)

-- if all reports of a run have small numbers, so has each
small_at : (before later : List Report) (r : Report) → SmallReports (before ++ (r ∷ later)) → SmallReport r
unfolding SmallReports
small_at [] later r h = h.0
small_at (x ∷ xs) later r h = small_at xs later r h.1

pub all-writable : (rs : List Report) → SmallReports rs → AllWritable rs
all-writable rs h before later r e = report_writable r (small_at before later r (subst SmallReports e h))

run_small : (d : Day) (es : List Event) → Ten d.session → SmallReports (told d es)
unfolding told SmallReports
run_small d [] t = tt
run_small d (e ∷ es) t =
    append-small (outcome d e).reports (told (outcome d e).day es) (outcome-small d e t.prices) (run_small (outcome d e).day es (outcome_ten d e t))

pub reports-writable : ReportsWritable
reports-writable d e l = all-writable (outcome d e).reports (outcome-small d e l)

pub runs_writable : RunsWritable
unfolding opened_session
runs_writable g es = all-writable (told (opened g) es) (run_small (opened g) es (record { prices = refl; sizes = refl }))
