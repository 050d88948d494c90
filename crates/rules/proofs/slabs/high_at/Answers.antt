-- Within the bounds of settings and percents no product overflows.
use mathlib.Core.Path.{refl}
use Rattle.rules_law.specs.Slabs.{high_at}
use Rattle.rules.proofs.slabs.high_at.Goals as goal

pub returns : goal.returns
unfolding high_at
returns c = refl
