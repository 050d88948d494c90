-- What is remembered of trades is tested only where the other numbers are within their bounds.
use Rattle.terms.proofs.Logic.{conditions}
use Rattle.soundness_law.specs.Sound.{session_sound}
use mathlib.Core.Path.{sym, ◌∙◌}
use borrow.Author.Tests.{not-false}
use Rattle.soundness_law.proofs.Clocked.{clocked}
use Rattle.soundness.proofs.session_sound.Goals as goal

pub returns-then-not-clock_sound : goal.returns-then-not-clock_sound
unfolding session_sound
returns-then-not-clock_sound c = search conditions

pub tape_sound-requires : goal.tape_sound-requires
tape_sound-requires c =
    (clocked c.args.s (sym c.clock_sound.ensures ∙ not-false _ c.if-not-clock_sound.false-raw), c.requires)

pub returns : goal.returns
unfolding session_sound
returns c = search conditions
