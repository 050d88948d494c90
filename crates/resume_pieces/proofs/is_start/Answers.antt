-- By how the bytes are read.
use Rattle.lines_text_law.proofs.Sorts.{wrong-read, read-line}
use Rattle.resume_law.proofs.Standings.{start-whole, start-unfinished, start-wrong}
use borrow.Author.Rules.{rules}
use Rattle.resume_pieces.proofs.is_start.Goals as goal

ruleset answers = (rules, read-line, start-whole, start-unfinished, start-wrong)

pub returns-in-Ok : goal.returns-in-Ok
returns-in-Ok c = search answers

pub returns-in-Err-Unfinished : goal.returns-in-Err-Unfinished
returns-in-Err-Unfinished c = search answers

pub returns-in-Err-Wrong : goal.returns-in-Err-Wrong
returns-in-Err-Wrong c = search (rules, start-wrong, wrong-read c.in-Err-Wrong.is c.in-Err-Wrong.field-0-is)
