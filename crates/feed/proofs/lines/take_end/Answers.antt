-- The lines are taken first, and the end is told behind them.
use Rattle.feed_law.proofs.Calls.{took_end}
use borrow.Author.Rules.{rules}
use Rattle.feed.proofs.lines.take_end.Goals as goal

ruleset answers = (rules, took_end)

pub returns : goal.returns
returns c = search answers
