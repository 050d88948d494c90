-- Each turn adds the trade at its place; behind the last place nothing is left to add.
use borrow.Author.Rules.{rules}
use native.Mathlib.Omega.{arith}
use Prim.Native.Nat.{◌<◌}
use lib.ListN.{length}
use Rattle.std.proofs.lemmas.List.{length_push}
use Rattle.std.proofs.lemmas.Slice.Zip.{zip_turn, zip_end}
use Rattle.rules_law.proofs.Tapes.{ten_turn, ten_end}
use Rattle.rules.proofs.close.last_ten.Goals as goal

pub loop-price-preserved : goal.loop-price-preserved
loop-price-preserved c =
    let l = c.loop-price in
    let turn = zip_turn c.args.prices c.args.sizes l.yielded c.into_iter-price-iterator.result l.price-iterator c.next.new.self c.next.result (cc) (cc) l.yielded_by (c.in-Some.price, c.in-Some.lots) c.in-Some.is c.next.ensures.steps in
    let here : length l.yielded < 10 = omega (arith, turn.0) in
    rw length_push (ten_turn c.tally_after-t.result c.requires l.invariant (search rules) (search rules) here (rw (← turn.2 0, ← turn.3 0) c.tally_after-t.ensures))

pub returns : goal.returns
returns c =
    let l = c.loop-price in
    let s = l.invariant in
    let over = zip_end c.args.prices c.args.sizes l.yielded c.into_iter-price-iterator.result l.price-iterator c.next.new.self c.next.result (cc) (cc) l.yielded_by c.in-None.is c.next.ensures.steps in
    (ten_end s (search rules) (omega (arith, over)), s.fits, omega (arith, over, s.fits, s.counted))
