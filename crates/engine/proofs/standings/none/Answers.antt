-- Every part is zero.
use mathlib.Core.Path.{refl}
use Rattle.engine_law.specs.Standings.{no_standing}
use Rattle.engine.proofs.standings.none.Goals as goal

pub returns : goal.returns
unfolding no_standing
returns c = refl
