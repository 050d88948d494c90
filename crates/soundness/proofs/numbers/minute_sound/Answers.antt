-- The product is computed only where the count is bounded, so it does not overflow.
use Rattle.soundness_law.specs.Sound.{minute_sound}
use Rattle.terms.proofs.Logic.{conditions}
use Rattle.soundness.proofs.numbers.minute_sound.Goals as goal

pub returns-then-not-count-trades : goal.returns-then-not-count-trades
unfolding minute_sound
returns-then-not-count-trades c = search conditions

pub returns : goal.returns
unfolding minute_sound
returns c = search conditions
