-- Each return is answered by its test; the slab is tested only where the time is small.
use Rattle.terms.proofs.Logic.{conditions}
use Rattle.soundness_law.specs.Sound.{clock_sound}
use Rattle.soundness_law.proofs.Clocked.{time_found, clock_decides}
use Rattle.soundness.proofs.clock_sound.Goals as goal

pub returns-then-not-is_valid : goal.returns-then-not-is_valid
unfolding clock_sound
returns-then-not-is_valid c = search conditions depth 14

pub returns-then-not-time_sound : goal.returns-then-not-time_sound
unfolding clock_sound
returns-then-not-time_sound c = search conditions depth 14

pub returns-then-not-counts_sound : goal.returns-then-not-counts_sound
unfolding clock_sound
returns-then-not-counts_sound c = search conditions depth 14

pub slab_sound-requires : goal.slab_sound-requires
slab_sound-requires c = search time_found

pub returns-then-not-slab_sound : goal.returns-then-not-slab_sound
unfolding clock_sound
returns-then-not-slab_sound c = search conditions depth 14 fits 20000

pub returns : goal.returns
returns c = search clock_decides
