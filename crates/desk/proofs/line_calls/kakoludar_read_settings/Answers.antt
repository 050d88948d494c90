-- The slice may be too short; otherwise each of the reader's three answers is one case.
use Rattle.lines_reading_law.proofs.SettingsLines.{settings-lines}
use Rattle.lines_writing_law.proofs.Short.{settings-short}
use Rattle.lines_text_law.proofs.Sorts.{read-line}
use Rattle.desk_law.proofs.LineReads.{whole-few, wrong-few, whole_into, unfinished_into, wrong_into}
use Rattle.desk.proofs.line_calls.kakoludar_read_settings.Goals as goal

pub done-requires : goal.done-requires
done-requires c = search (whole-few settings-lines settings-short, read-line)

pub wrong_at-requires : goal.wrong_at-requires
wrong_at-requires c = search (wrong-few settings-lines settings-short, read-line)

pub returns-in-Ok : goal.returns-in-Ok
returns-in-Ok c = search (whole_into settings-lines settings-short, read-line)

pub returns-in-Err-Unfinished : goal.returns-in-Err-Unfinished
returns-in-Err-Unfinished c = search (unfinished_into settings-lines settings-short, read-line)

pub returns-in-Err-Wrong : goal.returns-in-Err-Wrong
returns-in-Err-Wrong c = search (wrong_into settings-lines settings-short, read-line)
