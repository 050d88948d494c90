-- One arm for each answer of the reader: settings, an unfinished line, a wrong one.
use borrow.Author.Rules.{rules}
use Rattle.lines_text_law.proofs.Sorts.{read-line}
use Rattle.feed_law.proofs.Taking.{settings-whole, settings_unfinished, settings_wrong}
use Rattle.feed_turns.proofs.turns.settings_line.Goals as goal

ruleset answers = (rules, read-line, settings-whole, settings_unfinished, settings_wrong)

pub returns-in-Ok : goal.returns-in-Ok
returns-in-Ok c = search answers

pub returns-in-Err-Unfinished : goal.returns-in-Err-Unfinished
returns-in-Err-Unfinished c = search answers

pub returns-in-Err-Wrong : goal.returns-in-Err-Wrong
returns-in-Err-Wrong c = search answers
