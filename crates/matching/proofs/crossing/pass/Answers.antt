-- At each turn, going on from here leaves what the whole sweep leaves: that is what the loop keeps.
use borrow.Author.Rules.{rules}
use Rattle.matching_law.proofs.Turns.{answer-zero, answer-end, answer-stop, answer-part, turn, turn_first}
use Rattle.matching.proofs.crossing.pass.Goals as goal

ruleset answers = (rules, answer-zero, answer-end, answer-stop, answer-part, turn, turn_first)

pub returns-then-left-eq0 : goal.returns-then-left-eq0
returns-then-left-eq0 c = search answers

pub returns-then-not-m : goal.returns-then-not-m
returns-then-not-m c = search answers

pub returns-then-left-o : goal.returns-then-left-o
returns-then-left-o c = search answers

pub loop-i-preserved : goal.loop-i-preserved
loop-i-preserved c = (search answers, search answers, search answers, search answers)

pub returns : goal.returns
returns c = search answers
