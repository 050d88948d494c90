-- The slice may be too short; otherwise its numbers are a report's, or no report's.
use Rattle.desk_law.proofs.LineWrites.{report_no-run, report_few, report_written, report_none}
use Rattle.desk.proofs.line_calls.kakoludar_write_report.Goals as goal

pub returns-then-report-lt-RECORD : goal.returns-then-report-lt-RECORD
returns-then-report-lt-RECORD c = search report_no-run

pub wrote-requires : goal.wrote-requires
wrote-requires c = search report_few

pub returns-in-Some : goal.returns-in-Some
returns-in-Some c = search report_written

pub returns-in-None : goal.returns-in-None
returns-in-None c = search report_none
