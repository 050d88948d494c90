-- At each turn `all` says whether the prices tested so far pass; each price is small enough for the factor.
use mathlib.Core.Path.{◌≡◌}
use lib.ListN.{take}
use Rattle.terms.specs.Numbers.{on_tick}
use Rattle.soundness_law.specs.Sound.{every}
use Rattle.soundness.proofs.numbers.ten_ticked.Given as goal

abbrev pub invariant-loop-x : goal.invariant-loop-x
invariant-loop-x l = l.all ≡ every (on_tick l.tick) (take l.x-index l.x-items)
