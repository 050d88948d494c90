-- The product of an underlying and a factor fits into a word, and the quotient is at most 110,600,000.
use Rattle.rules_law.specs.Growth.{theoretical}
use native.Mathlib.Omega.{arith}
use native.Mathlib.Nat.{mul-le-mul}
use Rattle.rules.proofs.growth.theoretical.Goals as goal

pub returns : goal.returns
unfolding theoretical
returns c = (rw c.factor-g.ensures.0, omega (arith, mul-le-mul c.requires.0 c.factor-g.ensures.1))
