-- One arm for each reason why the lines stopped: only where no whole one is left is the end told.
use Rattle.feed_law.proofs.Ending.{end_full, end-ended, end_refused}
use borrow.Author.Rules.{rules}
use Rattle.feed.proofs.lines.end_behind.Goals as goal

ruleset answers = (rules, end_full, end-ended, end_refused)

pub returns-in-Full : goal.returns-in-Full
returns-in-Full c = search answers

pub returns-in-Over : goal.returns-in-Over
returns-in-Over c = search answers

pub returns-in-Refused : goal.returns-in-Refused
returns-in-Refused c = search answers
