-- One arm for each fate of a remainder: there is none, it rests, it turns into a limit, it is cancelled.
use borrow.Author.Rules.{rules}
use Rattle.acts_law.proofs.Leftovers.{rest-asks, turn_asks, left-none, left-rests, left_turns, left-ends}
use Rattle.acts_orders.proofs.leftover.settle.Goals as goal

ruleset answers = (rules, rest-asks, turn_asks, left-none, left-rests, left_turns, left-ends)

pub returns-in-Done : goal.returns-in-Done
returns-in-Done c = search answers

pub returns-in-Rests : goal.returns-in-Rests
returns-in-Rests c = search answers

pub returns-in-Ends : goal.returns-in-Ends
returns-in-Ends c = search answers
