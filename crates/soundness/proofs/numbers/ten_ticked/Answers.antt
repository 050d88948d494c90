-- At each turn `all` says whether the prices tested so far pass; each price is small enough for the factor.
use mathlib.Core.Path.{refl}
use native.Mathlib.Omega.{arith}
use lib.ListN.{get_or}
use borrow.Author.Rules.{rules}
use Rattle.terms.specs.Sizes.{price_most}
use Rattle.terms.specs.Numbers.{is_price, on_tick}
use Rattle.terms.proofs.Logic.{between_facts}
use Rattle.soundness_law.specs.Sound.{every}
use Rattle.soundness_law.proofs.Lists.{at_place, one_more}
use Rattle.soundness.proofs.numbers.ten_ticked.Goals as goal

pub loop-x-init : goal.loop-x-init
unfolding every
loop-x-init c = refl

pub on_tick-all-requires : goal.on_tick-all-requires
on_tick-all-requires c =
    let xs = c.args.prices in
    let i = c.loop-x.x-index in
    let p = between_facts 1 (get_or xs i 0) price_most (at_place is_price xs c.requires.0 i (search rules)) in
    (omega (arith, p), c.requires.1)

pub loop-x-preserved : goal.loop-x-preserved
loop-x-preserved c =
    let a = c.args in
    let l = c.loop-x in
    one_more (on_tick a.tick) a.prices l.x-index l.all l.invariant c.on_tick-all.result c.on_tick-all.ensures (search rules)
