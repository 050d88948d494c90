-- A store keeps the length.
use mathlib.Core.Path.{◌≡◌}
use lib.ListN.{length}
use Rattle.cases_book.proofs.steps.fill.Given as goal

abbrev pub invariant-loop-i : goal.invariant-loop-i
invariant-loop-i l = length l.t ≡ length l.initial.t
