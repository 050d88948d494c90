-- The line of the part from a place on is the line there.
use borrow.Author.Rules.{rules}
use Rattle.resume_law.proofs.Steps.{line_from}
use Rattle.resume_lines.proofs.line_at.Goals as goal

ruleset answers = (rules, line_from)

pub returns : goal.returns
returns c = search answers
