-- The slice may be too short; otherwise a run that has just begun is written.
use Rattle.desk_law.proofs.TextFeeds.{start-no-run, start_done}
use Rattle.desk.proofs.texts.kakoludar_start.Goals as goal

pub returns-then-run-lt-RUN : goal.returns-then-run-lt-RUN
returns-then-run-lt-RUN c = search start-no-run

pub returns : goal.returns
returns c = search start_done
