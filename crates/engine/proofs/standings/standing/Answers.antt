-- The lengths and the soundness are tested in the definition's order, then what is in force is answered.
use Rattle.engine_law.proofs.Stands.{short-bought, short-sold, found_unsound, found_clocked, found_sound}
use Rattle.engine.proofs.standings.standing.Goals as goal

pub returns-then-buys-lt-TABLE : goal.returns-then-buys-lt-TABLE
returns-then-buys-lt-TABLE c = search short-bought

pub returns-then-sells-lt-TABLE : goal.returns-then-sells-lt-TABLE
returns-then-sells-lt-TABLE c = search short-sold

pub returns-then-not-is_sound : goal.returns-then-not-is_sound
returns-then-not-is_sound c = search found_unsound

pub standing_now-standing-requires : goal.standing_now-standing-requires
standing_now-standing-requires c = found_clocked _ _ _ _ c.is_sound.ensures c.if-not-is_sound.false-raw

pub returns : goal.returns
returns c = search found_sound
