-- At each turn, remembering the trades that are left makes of the session what all trades make of the first: that is what the loop keeps.
use Rattle.acts_law.proofs.Recalled.{trade_asks, recall_next, recall_all}
use Rattle.acts_reports.proofs.remembering.remember.Goals as goal

pub with_trade-s-requires : goal.with_trade-s-requires
with_trade-s-requires c = trade_asks c.loop-i-test.true c.loop-i.invariant

pub loop-i-preserved : goal.loop-i-preserved
loop-i-preserved c = search recall_next

pub returns : goal.returns
returns c = search recall_all
