-- The accept report is written first, and the sweep writes the trades behind it.
use borrow.Author.Rules.{rules}
use Rattle.acts_law.proofs.Meets.{sweep-space, sweep-range, crossed}
use Rattle.acts_orders.proofs.entering.cross.Goals as goal

ruleset answers = (rules, sweep-space, sweep-range, crossed)

pub returns : goal.returns
returns c = search answers
