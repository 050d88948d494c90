-- The lengths are tested in the definition's order, then each arm returns the live part of its side.
use borrow.Author.Tests.{lt-ltb, le-ltb}
use Rattle.book_law.specs.View.{view_of}
use Rattle.book.proofs.view.view.Goals as goal

pub returns-then-buys-lt-TABLE : goal.returns-then-buys-lt-TABLE
unfolding view_of
returns-then-buys-lt-TABLE c = simp (lt-ltb _ _ c.if-buys-lt-TABLE.true)

pub returns-then-sells-lt-TABLE : goal.returns-then-sells-lt-TABLE
unfolding view_of
returns-then-sells-lt-TABLE c = simp (le-ltb _ _ c.if-buys-lt-TABLE.false, lt-ltb _ _ c.if-sells-lt-TABLE.true)

pub returns-in-Buy : goal.returns-in-Buy
unfolding view_of
returns-in-Buy c = simp (le-ltb _ _ c.if-buys-lt-TABLE.false, le-ltb _ _ c.if-sells-lt-TABLE.false, c.in-Buy.is) c.live.ensures

pub returns-in-Sell : goal.returns-in-Sell
unfolding view_of
returns-in-Sell c = simp (le-ltb _ _ c.if-buys-lt-TABLE.false, le-ltb _ _ c.if-sells-lt-TABLE.false, c.in-Sell.is) c.live-in-Sell.ensures
