-- Within the bounds of settings and percents no product overflows.
use mathlib.Core.Path.{refl}
use Rattle.rules_law.specs.Slabs.{low_at}
use Rattle.rules.proofs.slabs.low_at.Goals as goal

pub returns : goal.returns
unfolding low_at
returns c = refl
