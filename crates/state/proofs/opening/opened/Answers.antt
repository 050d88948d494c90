-- Every field is the definition's.
use Rattle.state_law.specs.Opening.{opened_session}
use Rattle.state.proofs.opening.opened.Goals as goal

pub returns : goal.returns
unfolding opened_session
returns c = simp (c.at_open.ensures, c.begun-reckoning.ensures, c.theoretical_or-price.ensures)
