-- At each turn the counts and lengths stay within what the steps ask for.
use mathlib.Core.Path.{◌≡◌}
use Prim.Native.Nat.{◌-◌, ◌≤◌}
use lib.ListN.{length}
use Rattle.cases_book.specs.Lent.{Counted, SidesLent}
use Rattle.cases_book.proofs.steps.run.Given as goal

abbrev pub invariant-loop-at : goal.invariant-loop-at
invariant-loop-at l =
    (l.at ≤ length l.text)
    × Counted l.c
    × SidesLent l.buys l.sells
    × (length l.buys ≡ length l.initial.buys)
    × (length l.sells ≡ length l.initial.sells)

abbrev pub decreases-loop-at : goal.decreases-loop-at
decreases-loop-at l = length l.text - l.at
