-- Each field is what its call answers.
use Rattle.state_law.specs.Clock.{clock_step}
use Rattle.state.proofs.clock.step.Goals as goal

pub returns : goal.returns
unfolding clock_step
returns c = cc
