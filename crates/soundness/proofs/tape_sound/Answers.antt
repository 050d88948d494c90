-- The code makes the definition's tests in the same order.
use Rattle.terms.proofs.Logic.{conditions}
use Rattle.soundness_law.specs.Sound.{tape_sound}
use Rattle.soundness.proofs.tape_sound.Goals as goal

pub returns-then-not-half_sound : goal.returns-then-not-half_sound
unfolding tape_sound
returns-then-not-half_sound c = search conditions

pub returns-then-not-minute_sound : goal.returns-then-not-minute_sound
unfolding tape_sound
returns-then-not-minute_sound c = search conditions

pub returns : goal.returns
unfolding tape_sound
returns c = search conditions
