-- The place goes up at each turn, and the tables and the room keep their lengths.
use Prim.Native.Nat.{◌-◌, ◌≤◌}
use lib.ListN.{length}
use mathlib.Core.Path.{◌≡◌}
use Rattle.cases_engine.proofs.steps.run.Given as goal

abbrev pub invariant-loop-at : goal.invariant-loop-at
invariant-loop-at l = (l.at ≤ length l.text) × (length l.buys ≡ length l.initial.buys) × (length l.sells ≡ length l.initial.sells) × (length l.room ≡ length l.initial.room)

abbrev pub decreases-loop-at : goal.decreases-loop-at
decreases-loop-at l = length l.text - l.at
