-- The orders behind the cut move down over it, and zeros fill the slots that they leave.
use Rattle.tables.proofs.Whole.{cut_none, cut_done}
use borrow.Author.Rules.{rules}
use Rattle.tables.proofs.orders.cut.Goals as goal

ruleset answers = (rules, cut_none, cut_done)

pub returns : goal.returns
returns c = search answers
