-- Each return is one case: the room must be emptied first, or the end is told.
use borrow.Author.Rules.{rules}
use Rattle.feed_law.proofs.Ending.{end-filled, end-told}
use Rattle.feed.proofs.lines.finish.Goals as goal

ruleset answers = (rules, end-filled, end-told)

pub returns-then-out-wrote-lt-LINE : goal.returns-then-out-wrote-lt-LINE
returns-then-out-wrote-lt-LINE c = search answers

pub returns : goal.returns
returns c = search answers
