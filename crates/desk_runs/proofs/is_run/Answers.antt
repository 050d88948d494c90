-- The code makes the definition's two tests: of the stage, and of the session's numbers.
use Rattle.desk_packing_law.proofs.StagePacks.{run_tested}
use Rattle.desk_runs.proofs.is_run.Goals as goal

pub returns : goal.returns
returns c = search run_tested
