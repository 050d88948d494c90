-- The code makes the three tests of the definition.
use Rattle.terms.specs.Truth.{◌⊓◌}
use Rattle.engine_law.specs.Calls.{roomy}
use mathlib.Core.Path.{refl}
use Rattle.engine.proofs.apply.is_roomy.Goals as goal

pub returns : goal.returns
unfolding roomy ◌⊓◌
returns c = refl
