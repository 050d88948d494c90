-- A store keeps the table's length.
use mathlib.Core.Path.{◌≡◌}
use lib.ListN.{length}
use Rattle.cases_engine.proofs.steps.put_orders.Given as goal

abbrev pub invariant-loop-put : goal.invariant-loop-put
invariant-loop-put l = length l.t ≡ length l.initial.t
