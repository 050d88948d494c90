-- The slice may be too short; otherwise the category is none, or settings are written.
use Rattle.desk_law.proofs.LineWrites.{settings-no-run, settings-few, settings-written, settings-none}
use Rattle.desk.proofs.line_calls.kakoludar_write_settings.Goals as goal

pub returns-then-settings-lt-SETTINGS : goal.returns-then-settings-lt-SETTINGS
returns-then-settings-lt-SETTINGS c = search settings-no-run

pub returns-then-not-is_category : goal.returns-then-not-is_category
returns-then-not-is_category c = search settings-none

pub wrote-requires : goal.wrote-requires
wrote-requires c = search settings-few

pub returns : goal.returns
returns c = search settings-written
