-- By how the settings are read.
use borrow.Author.Rules.{rules}
use Rattle.lines_text_law.proofs.Sorts.{read-line}
use Rattle.resume_law.proofs.Lays.{first-within, reads_whole, reads_unfinished, reads_wrong}
use Rattle.resume.proofs.rebuild.Goals as goal

ruleset answers = (rules, read-line, first-within, reads_whole, reads_unfinished, reads_wrong)

pub returns-in-Ok : goal.returns-in-Ok
returns-in-Ok c = search answers

pub returns-in-Err-Unfinished : goal.returns-in-Err-Unfinished
returns-in-Err-Unfinished c = search answers

pub returns-in-Err-Wrong : goal.returns-in-Err-Wrong
returns-in-Err-Wrong c = search answers
