-- Each return is answered by its test; the ticks are tested only where the numbers are in range.
use mathlib.Core.Path.{sym, ◌∙◌}
use borrow.Author.Tests.{not-false}
use Rattle.terms.specs.Settings.{settings_valid}
use Rattle.terms.proofs.Logic.{conditions}
use Rattle.terms.proofs.Valid.{ranged}
use Rattle.terms.proofs.judge.is_valid.Goals as goal

pub returns-then-not-ranged : goal.returns-then-not-ranged
unfolding settings_valid
returns-then-not-ranged c = search conditions

pub ticked-requires : goal.ticked-requires
ticked-requires c = (ranged c.args.g (sym c.ranged.ensures ∙ not-false _ c.if-not-ranged.false-raw), c.requires)

pub returns : goal.returns
unfolding settings_valid
returns c = search conditions
