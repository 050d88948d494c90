-- Each test of the code is one of the definition's.
use Rattle.terms.specs.Truth.{◌⊓◌}
use Rattle.terms.specs.Settings.{settings_ticked}
use Rattle.terms.proofs.judge.ticked.Goals as goal

pub returns : goal.returns
unfolding settings_ticked ◌⊓◌
returns c = simp (c.on_tick-settle.ensures, c.on_tick-close.ensures, c.on_tick-base.ensures)
