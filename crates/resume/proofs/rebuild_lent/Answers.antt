-- The scratch is cleared.
use borrow.Author.Rules.{rules}
use Rattle.resume_law.proofs.Lays.{rebuilt_lent}
use Rattle.resume.proofs.rebuild_lent.Goals as goal

ruleset answers = (rules, rebuilt_lent)

pub returns : goal.returns
returns c = search answers
