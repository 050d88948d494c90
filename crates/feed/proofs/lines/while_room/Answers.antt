-- Before each turn, what was taken and printed and what the bytes left come to make up the whole: that is what the loop keeps.
use Rattle.feed_law.proofs.Going.{going_start, going_full, going_last, going_on, going_end}
use borrow.Author.Rules.{rules}
use Rattle.feed.proofs.lines.while_room.Goals as goal

ruleset answers = (rules, going_start, going_full, going_last, going_on, going_end)

pub loop-at-init : goal.loop-at-init
loop-at-init c = search answers

pub returns-then-out-wrote : goal.returns-then-out-wrote
returns-then-out-wrote c = search answers

pub returns-then-used-eq0 : goal.returns-then-used-eq0
returns-then-used-eq0 c = search answers

pub loop-at-preserved : goal.loop-at-preserved
loop-at-preserved c = (search answers, search answers, search answers, search answers, search answers, search answers)

pub returns : goal.returns
returns c = search answers
