-- The code makes the tests of the definition.
use mathlib.Core.Path.{refl}
use Rattle.soundness_law.specs.Sound.{time_sound}
use Rattle.terms.specs.Truth.{◌⊓◌}
use Rattle.soundness.proofs.numbers.time_sound.Goals as goal

pub returns : goal.returns
unfolding time_sound ◌⊓◌
returns c = refl
