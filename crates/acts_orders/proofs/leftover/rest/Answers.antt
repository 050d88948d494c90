-- The order is inserted, and the side has one order more.
use borrow.Author.Rules.{rules}
use Rattle.acts_law.proofs.Leftovers.{rested}
use Rattle.acts_orders.proofs.leftover.rest.Goals as goal

ruleset answers = (rules, rested)

pub returns : goal.returns
returns c = search answers
