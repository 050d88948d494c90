-- One arm for each answer of the reader.
use borrow.Author.Rules.{rules}
use Rattle.lines_text_law.proofs.Sorts.{read-line}
use Rattle.resume_law.proofs.Steps.{line-whole, line-unfinished, line_wrong}
use Rattle.resume_lines.proofs.replay_line.Goals as goal

ruleset answers = (rules, read-line, line-whole, line-unfinished, line_wrong)

pub returns-in-Ok : goal.returns-in-Ok
returns-in-Ok c = search answers

pub returns-in-Err-Unfinished : goal.returns-in-Err-Unfinished
returns-in-Err-Unfinished c = search answers

pub returns-in-Err-Wrong : goal.returns-in-Err-Wrong
returns-in-Err-Wrong c = search answers
