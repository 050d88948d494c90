-- The lengths are tested in the definition's order, then the session.
use borrow.Author.Tests.{lt-ltb, le-ltb}
use Rattle.desk_law.specs.Calls.{sound_on}
use Rattle.desk_law.proofs.Opens.{sound-answered}
use Rattle.desk.proofs.calls.kakoludar_sound.Goals as goal

pub returns-then-session-lt-SESSION : goal.returns-then-session-lt-SESSION
unfolding sound_on
returns-then-session-lt-SESSION c = simp (lt-ltb _ _ c.if-session-lt-SESSION.true)

pub returns-then-buys-lt-TABLE : goal.returns-then-buys-lt-TABLE
unfolding sound_on
returns-then-buys-lt-TABLE c = simp (le-ltb _ _ c.if-session-lt-SESSION.false, lt-ltb _ _ c.if-buys-lt-TABLE.true)

pub returns-then-sells-lt-TABLE : goal.returns-then-sells-lt-TABLE
unfolding sound_on
returns-then-sells-lt-TABLE c = simp (le-ltb _ _ c.if-session-lt-SESSION.false, le-ltb _ _ c.if-buys-lt-TABLE.false, lt-ltb _ _ c.if-sells-lt-TABLE.true)

pub returns : goal.returns
returns c = search sound-answered
