-- The code makes the two tests of the definition.
use mathlib.Core.Path.{refl}
use Rattle.terms.specs.Truth.{◌⊓◌}
use Rattle.resume_law.specs.Calls.{tables_long}
use Rattle.resume.proofs.is_long.Goals as goal

pub returns : goal.returns
unfolding tables_long ◌⊓◌
returns c = refl
