-- One arm for each place at which the run can stand.
use Rattle.feed_law.proofs.Ending.{end_awaiting, end_trading, end-over}
use borrow.Author.Rules.{rules}
use Rattle.feed_prints.proofs.printing.tell_end.Goals as goal

ruleset answers = (rules, end_awaiting, end_trading, end-over)

pub returns-in-Awaiting : goal.returns-in-Awaiting
returns-in-Awaiting c = search answers

pub returns-in-Trading : goal.returns-in-Trading
returns-in-Trading c = search answers
