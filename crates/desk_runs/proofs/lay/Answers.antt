-- The stage is written to the front, and the session's numbers behind it.
use Rattle.desk_packing_law.proofs.StagePacks.{run-laid}
use Rattle.desk_runs.proofs.lay.Goals as goal

pub returns : goal.returns
returns c = search run-laid
