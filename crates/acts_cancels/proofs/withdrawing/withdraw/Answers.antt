-- The order goes from the side on which it rests; that side has one order fewer, and the other is as it was.
use Rattle.acts_law.proofs.Ends.{some-buys, some-sells, from_buys, from_sells}
use borrow.Author.Rules.{rules}
use Rattle.acts_cancels.proofs.withdrawing.withdraw.Goals as goal

ruleset answers = (rules, some-buys, some-sells, from_buys, from_sells)

pub overflow_sub-left : goal.overflow_sub-left
overflow_sub-left c = search answers

pub returns-then-is_resting : goal.returns-then-is_resting
returns-then-is_resting c = search answers

pub overflow_sub-left-2 : goal.overflow_sub-left-2
overflow_sub-left-2 c = search answers

pub returns : goal.returns
returns c = search answers
