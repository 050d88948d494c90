-- Each return is one case: the numbers are a run's, or not.
use Rattle.desk_packing_law.proofs.StagePacks.{no_run, a_run}
use Rattle.desk_runs.proofs.unpack.Goals as goal

pub returns-then-not-is_run : goal.returns-then-not-is_run
returns-then-not-is_run c = search no_run

pub returns : goal.returns
returns c = search a_run
