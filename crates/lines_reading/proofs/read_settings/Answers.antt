-- The code answers as the grammar does, and that answer is the right one.
use Rattle.lines_text_law.proofs.Sorts.{right_as}
use Rattle.lines_reading_law.proofs.SettingsLines.{settings-lines}
use Rattle.lines_reading.proofs.read_settings.Goals as goal

pub returns : goal.returns
returns c = search (right_as settings-lines)
