-- The band is taken at the category's percent, after the widening that is due by then.
use Rattle.state_law.specs.Clock.{clock_step}
use Rattle.state.proofs.clock.band_at.Goals as goal

pub returns : goal.returns
unfolding clock_step
returns c = (simp (c.band_at.ensures.0, c.percent_of-percent.ensures.0, c.widened_by-widened.ensures, c.slab_of-slab.ensures.0), c.band_at.ensures.1)
