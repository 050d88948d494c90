-- Each number is the definition's.
use Rattle.desk_packing_law.specs.Settings.{settings_numbers}
use Rattle.desk_packing.proofs.settings.pack.Goals as goal

pub returns : goal.returns
unfolding settings_numbers
returns c = rw c.from-row.ensures
