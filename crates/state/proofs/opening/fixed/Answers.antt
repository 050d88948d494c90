-- Every field is zero.
use Rattle.state_law.specs.Opening.{fixed_session}
use Rattle.state.proofs.opening.fixed.Goals as goal

pub returns : goal.returns
unfolding fixed_session
returns c = simp (c.at_open.ensures, c.begun-reckoning.ensures)
