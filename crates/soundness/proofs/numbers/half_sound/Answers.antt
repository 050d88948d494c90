-- The products are computed only where the lots are bounded, so they do not overflow.
use Rattle.soundness_law.specs.Sound.{half_sound}
use Rattle.terms.proofs.Logic.{conditions}
use Rattle.soundness.proofs.numbers.half_sound.Goals as goal

pub returns-then-not-count-trades : goal.returns-then-not-count-trades
unfolding half_sound
returns-then-not-count-trades c = search conditions

pub returns-then-not-count-lots : goal.returns-then-not-count-lots
unfolding half_sound
returns-then-not-count-lots c = search conditions

pub returns : goal.returns
unfolding half_sound
returns c = rw (← c.times-greatest.ensures, ← c.times-least.ensures) (search conditions)
