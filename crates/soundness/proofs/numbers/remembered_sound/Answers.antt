-- Prices and sizes are tested for as many trades as are remembered.
use borrow.Author.Rules.{rules}
use Rattle.terms.proofs.Logic.{conditions}
use Rattle.soundness_law.specs.Sound.{remembered_sound}
use Rattle.soundness_law.proofs.Lists.{full_tape}
use Rattle.soundness.proofs.numbers.remembered_sound.Goals as goal

pub returns-then-n-eq10 : goal.returns-then-n-eq10
returns-then-n-eq10 c = full_tape _ _ _ _ (search rules) (search rules) c.remembered-n.ensures.0 c.if-n-eq10.true c.full_sound.ensures

pub returns-then-not-prices_sound : goal.returns-then-not-prices_sound
unfolding remembered_sound
returns-then-not-prices_sound c = rw (← c.remembered-n.ensures.0) (search conditions)

pub returns : goal.returns
unfolding remembered_sound
returns c = rw (← c.remembered-n.ensures.0) (search conditions)
