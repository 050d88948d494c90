-- At each turn `all` says whether the numbers tested so far pass.
use mathlib.Core.Path.{◌≡◌}
use lib.ListN.{take}
use Rattle.terms.specs.Truth.{between}
use Rattle.soundness_law.specs.Sound.{every}
use Rattle.soundness.proofs.numbers.ten_within.Given as goal

abbrev pub invariant-loop-x : goal.invariant-loop-x
invariant-loop-x l = l.all ≡ every (λ x. between 1 x l.most) (take l.x-index l.x-items)
