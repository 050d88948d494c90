-- After j turns the first j numbers are written.
use Rattle.tables.proofs.Lays.{laid_none, laid_turn}
use borrow.Author.Rules.{rules}
use Rattle.tables.proofs.flat.lay.Goals as goal

pub loop-j-init : goal.loop-j-init
loop-j-init c = search (rules, laid_none)

pub loop-j-preserved : goal.loop-j-preserved
loop-j-preserved c = search (rules, laid_turn)
