-- Row 1 by all five lengths, then what the bytes say.
use borrow.Author.Rules.{rules}
use Rattle.resume_law.proofs.Lays.{lent_enough, lent_short, lent_long}
use Rattle.resume.proofs.resume_lent.Goals as goal

ruleset answers = (rules, lent_enough, lent_short, lent_long)

pub rebuild_lent-requires : goal.rebuild_lent-requires
rebuild_lent-requires c = lent_enough _ _ _ _ _ _ c.all_long.ensures c.if-not-all_long.false-raw
