-- Lots times tick is bounded, so twice the value and the unit fit into a word.
use Rattle.rules_law.specs.Close.{nearest}
use Rattle.rules.proofs.close.nearest_tick.Goals as goal

pub returns : goal.returns
unfolding nearest
returns c = simp c.spread-unit.ensures.0
