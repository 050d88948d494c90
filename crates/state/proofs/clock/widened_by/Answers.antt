-- Each return is one case: the cooling-off is over, or not.
use Rattle.state_law.specs.Clock.{widened_by}
use Rattle.state.proofs.clock.widened_by.Goals as goal

pub returns-then-over_by : goal.returns-then-over_by
unfolding widened_by
returns-then-over_by c = simp (c.if-over_by.true, ← c.over_by.ensures)

pub returns : goal.returns
unfolding widened_by
returns c = simp (c.if-over_by.false, ← c.over_by.ensures)
