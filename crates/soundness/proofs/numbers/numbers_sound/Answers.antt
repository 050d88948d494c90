-- The code makes the tests of the definition.
use mathlib.Core.Path.{refl}
use Rattle.soundness_law.specs.Sound.{numbers_sound}
use Rattle.terms.specs.Truth.{◌⊓◌}
use Rattle.soundness.proofs.numbers.numbers_sound.Goals as goal

pub returns : goal.returns
unfolding numbers_sound ◌⊓◌
returns c = refl
