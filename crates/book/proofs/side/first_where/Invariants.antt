-- No order before slot i passes the test, so the search goes on from there.
use Prim.Native.Nat.{◌+◌}
use mathlib.Core.Path.{◌≡◌}
use mathlib.Core.Bool.{Bool}
use lib.ListN.{drop}
use Rattle.terms.specs.declared.Order.{Order}
use Rattle.tables.specs.Live.{orders_in}
use Rattle.book_law.specs.code.Places.{first_where}
use Rattle.book.proofs.side.first_where.Given as goal

abbrev pub invariant-loop-i : goal.invariant-loop-i
invariant-loop-i g l = (p : Order → Bool) → ((x : Order) (r : Bool) → goal.F-post g l.test x r → r ≡ p x)
    → first_where p (orders_in l.orders) ≡ l.i + first_where p (drop l.i (orders_in l.orders))
