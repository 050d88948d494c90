-- Each part is what its call answers.
use Rattle.engine_law.proofs.Stands.{stands_by}
use Rattle.engine.proofs.standings.standing_now.Goals as goal

pub returns : goal.returns
returns c = search stands_by
