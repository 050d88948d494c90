-- Each return is one case: the line room is too short, or there is nothing to write.
use borrow.Author.Rules.{rules}
use Rattle.desk_law.proofs.LineWrites.{no-line-short, no-line_done}
use Rattle.desk.proofs.line_calls.no_line.Goals as goal

ruleset answers = (rules, no-line-short, no-line_done)

pub returns-then-line-lt-LINE : goal.returns-then-line-lt-LINE
returns-then-line-lt-LINE c = search answers

pub returns : goal.returns
returns c = search answers
