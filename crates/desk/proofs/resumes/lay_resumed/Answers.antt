-- The session's numbers are written, then the place.
use borrow.Author.Rules.{rules}
use Rattle.desk_law.proofs.Resumes.{resumed-laid}
use Rattle.desk.proofs.resumes.lay_resumed.Goals as goal

ruleset answers = (rules, resumed-laid)

pub returns : goal.returns
returns c = search answers
