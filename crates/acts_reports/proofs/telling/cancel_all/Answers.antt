-- Before each turn the cancels of the first i orders stand in the room, and `next` is the place behind them.
use Rattle.acts_law.proofs.Reports.{cancels_none, cancels_all, cancels_leave, cancels_turn}
use borrow.Author.Rules.{rules}
use Rattle.acts_reports.proofs.telling.cancel_all.Goals as goal

ruleset answers = (rules, cancels_none, cancels_all, cancels_leave, cancels_turn)

pub loop-i-init : goal.loop-i-init
loop-i-init c = search answers

pub tell_cancel-next-requires : goal.tell_cancel-next-requires
tell_cancel-next-requires c = search answers

pub loop-i-preserved : goal.loop-i-preserved
loop-i-preserved c = search answers

pub returns : goal.returns
returns c = search answers
