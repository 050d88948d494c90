-- Before each turn the lines of the first i records are printed.
use Rattle.feed_law.proofs.Prints.{telling_none, telling_on, telling_all}
use borrow.Author.Rules.{rules}
use Rattle.feed_prints.proofs.printing.tell_records.Goals as goal

ruleset answers = (rules, telling_none, telling_on, telling_all)

pub loop-i-init : goal.loop-i-init
loop-i-init c = search answers

pub loop-i-preserved : goal.loop-i-preserved
loop-i-preserved c = search answers
