-- The order meets the counter side, and what is left of it is settled.
use borrow.Author.Rules.{rules}
use Rattle.acts_law.proofs.Entries.{meet_asks, settle_asks, entered_as}
use Rattle.acts_orders.proofs.entering.enter.Goals as goal

ruleset answers = (rules, meet_asks, settle_asks, entered_as)

pub settle-p-requires : goal.settle-p-requires
settle-p-requires c = search answers

pub returns : goal.returns
returns c = search answers
