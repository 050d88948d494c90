-- The order in slot i is the first of those still to be searched; the test's answer decides whether the search ends there.
use mathlib.Core.Path.{◌≡◌, sym, ◌∙◌}
use native.Mathlib.Omega.{arith}
use Rattle.book_law.proofs.Search.{search_none, search_found, search_turn}
use Rattle.book.proofs.side.first_where.Goals as goal

pub returns-then-test : goal.returns-then-test
returns-then-test g c = λ p h. let o = c.at in
    search_found p c.args.orders.count c.args.orders.table.now c.loop-i.i (c.loop-i.invariant p h) o.result o.ensures c.loop-i-test.true (sym (h o.result c.test.result c.test.ensures) ∙ c.if-test.true)

pub loop-i-preserved : goal.loop-i-preserved
loop-i-preserved g c = λ p h. let o = c.at in
    search_turn p c.args.orders.count c.args.orders.table.now c.loop-i.i (c.loop-i.invariant p h) o.result o.ensures c.loop-i-test.true (sym (h o.result c.test.result c.test.ensures) ∙ c.if-test.false)

pub returns : goal.returns
returns g c = λ p h. let e : c.args.orders.count ≡ c.loop-i.i = omega arith in
    e ∙ search_none p c.args.orders.count c.args.orders.table.now c.loop-i.i (c.loop-i.invariant p h) c.loop-i-test.false
