-- Both tests of the definition.
use borrow.Author.Rules.{rules}
use Rattle.resume_law.proofs.Lays.{both_long}
use Rattle.resume.proofs.all_long.Goals as goal

ruleset answers = (rules, both_long)

pub returns : goal.returns
returns c = search answers
