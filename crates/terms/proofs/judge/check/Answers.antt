-- The code tries 12 and then 13, as the definition does; the ticks are tested only where the numbers are in range.
use borrow.Author.Tests.{not-false}
use mathlib.Core.Path.{sym, ◌∙◌}
use Rattle.terms.specs.Settings.{settings_verdict}
use Rattle.terms.proofs.Cascade.{cascade}
use Rattle.terms.proofs.Valid.{ranged}
use Rattle.terms.proofs.judge.check.Goals as goal

pub returns-then-not-ranged : goal.returns-then-not-ranged
unfolding settings_verdict
returns-then-not-ranged c = search cascade depth 14

pub ticked-requires : goal.ticked-requires
ticked-requires c =
    (ranged c.args.g (sym c.ranged.ensures ∙ not-false _ c.if-not-ranged.false-raw), c.factor.ensures)

pub returns-then-not-ticked : goal.returns-then-not-ticked
unfolding settings_verdict
returns-then-not-ticked c = search cascade depth 14

pub returns : goal.returns
unfolding settings_verdict
returns c = search cascade depth 14
