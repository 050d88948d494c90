-- The lengths and the soundness are tested in the definition's order, then the book gives the view.
use borrow.Author.Tests.{lt-ltb, le-ltb, not-true, not-false}
use Rattle.engine_law.specs.Calls.{view_call}
use Rattle.engine.proofs.looking.view.Goals as goal

pub returns-then-buys-lt-TABLE : goal.returns-then-buys-lt-TABLE
unfolding view_call
returns-then-buys-lt-TABLE c = simp (lt-ltb _ _ c.if-buys-lt-TABLE.true)

pub returns-then-sells-lt-TABLE : goal.returns-then-sells-lt-TABLE
unfolding view_call
returns-then-sells-lt-TABLE c = simp (le-ltb _ _ c.if-buys-lt-TABLE.false, lt-ltb _ _ c.if-sells-lt-TABLE.true)

pub returns-then-not-is_sound : goal.returns-then-not-is_sound
unfolding view_call
returns-then-not-is_sound c = rw (le-ltb _ _ c.if-buys-lt-TABLE.false, le-ltb _ _ c.if-sells-lt-TABLE.false, ← c.is_sound.ensures, not-true c.is_sound.result c.if-not-is_sound.true-raw)

pub returns : goal.returns
unfolding view_call
returns c = rw (le-ltb _ _ c.if-buys-lt-TABLE.false, le-ltb _ _ c.if-sells-lt-TABLE.false, ← c.is_sound.ensures, not-false c.is_sound.result c.if-not-is_sound.false-raw) c.view.ensures
