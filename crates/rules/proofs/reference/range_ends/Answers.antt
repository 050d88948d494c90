-- The reach is at most the reference, so neither end under- or overflows.
use Rattle.rules_law.specs.Reference.{range_low, range_high}
use Rattle.rules.proofs.reference.range_ends.Goals as goal

pub returns : goal.returns
unfolding range_low range_high
returns c = simp c.reach-reach.ensures.0
