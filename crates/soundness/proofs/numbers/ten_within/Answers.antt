-- At each turn `all` says whether the numbers tested so far pass.
use Prim.Native.Nat.{ℕ}
use mathlib.Core.Path.{refl}
use mathlib.Core.Bool.{Bool}
use lib.ListN.{get_or}
use borrow.Author.Rules.{rules}
use Rattle.terms.specs.Truth.{◌⊓◌, between}
use Rattle.soundness_law.specs.Sound.{every}
use Rattle.soundness_law.proofs.Lists.{one_more}
use Rattle.soundness.proofs.numbers.ten_within.Goals as goal

pub loop-x-init : goal.loop-x-init
unfolding every
loop-x-init c = refl

pub loop-x-preserved : goal.loop-x-preserved
unfolding ◌⊓◌
loop-x-preserved c =
    let a = c.args in
    let l = c.loop-x in
    let test : ℕ → Bool = λ x. between 1 x a.most in
    one_more test a.xs l.x-index l.all l.invariant (test (get_or a.xs l.x-index 0)) refl (search rules)
