-- Before each turn the run has gone from its start to where it stands, and the tables keep their lengths: that is what the loop keeps.
use Rattle.stream_law.proofs.Handing.{handing-start, handing-end, handing-fits, handing-on, handing_less, handing-stops}
use borrow.Author.Rules.{rules}
use Rattle.stream_feed.proofs.hand_over.Goals as goal

ruleset answers = (rules, handing-start, handing-end, handing-fits, handing-on, handing_less, handing-stops)

pub loop-at-init : goal.loop-at-init
loop-at-init c = search answers

pub returns-then-not-h : goal.returns-then-not-h
returns-then-not-h c = search answers

pub loop-at-preserved : goal.loop-at-preserved
loop-at-preserved c = search answers

pub returns-after-loop-at : goal.returns-after-loop-at
returns-after-loop-at c = search answers
