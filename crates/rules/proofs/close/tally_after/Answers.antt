-- The code adds what the definition adds; price times lots comes from a call.
use Rattle.rules_law.specs.Close.{tallied}
use Rattle.rules.proofs.close.tally_after.Goals as goal

pub returns : goal.returns
unfolding tallied
returns c = simp c.worth.ensures.0
