-- Each arm is one case: the numbers are a report's and its line is printed, or nothing is.
use Rattle.feed_law.proofs.Prints.{told_prints, nothing_prints}
use borrow.Author.Rules.{rules}
use Rattle.feed_prints.proofs.printing.tell_record.Goals as goal

ruleset answers = (rules, told_prints, nothing_prints)

pub returns-in-Some : goal.returns-in-Some
returns-in-Some c = search answers

pub returns-in-None : goal.returns-in-None
returns-in-None c = search answers
