-- Each end is what its call answers.
use Rattle.rules_law.proofs.Bands.{high_small}
use Rattle.rules.proofs.slabs.band_at.Goals as goal

pub returns : goal.returns
returns c = (simp (c.high_at-high.ensures, c.low_at-low.ensures), rw c.high_at-high.ensures (high_small c.requires))
