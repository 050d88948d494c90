-- The code adds what the definition adds.
use mathlib.Core.Path.{refl}
use Rattle.rules_law.specs.Reference.{minute_after}
use Rattle.rules.proofs.reference.minute_after.Goals as goal

pub returns : goal.returns
unfolding minute_after
returns c = refl
