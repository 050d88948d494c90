-- Each test of the code is one of the definition's.
use Rattle.terms.specs.Truth.{◌⊓◌}
use Rattle.terms.specs.Settings.{settings_ranged}
use Rattle.terms.proofs.judge.ranged.Goals as goal

pub returns : goal.returns
unfolding settings_ranged ◌⊓◌
returns c = simp (c.is_price-settle.ensures, c.is_price-close.ensures)
