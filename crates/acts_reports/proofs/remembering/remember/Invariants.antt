-- At each turn, remembering the trades that are left makes of the session what all trades make of the first: that is what the loop keeps.
use Rattle.acts_law.proofs.Recalled.{Recalling}
use Rattle.acts_reports.proofs.remembering.remember.Given as goal

abbrev pub invariant-loop-i : goal.invariant-loop-i
invariant-loop-i l = Recalling l.band l.room l.at l.n l.initial.s l.s l.i
