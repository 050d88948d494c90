-- The numbers are written into the part behind the first place, and then the first number.
use Rattle.desk_packing_law.proofs.StagePacks.{laid-behind}
use Rattle.desk_runs.proofs.lay_behind.Goals as goal

pub returns : goal.returns
returns c = search laid-behind
