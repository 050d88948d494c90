-- On the first numbers of the scratch.
use borrow.Author.Rules.{rules}
use Rattle.resume_law.proofs.Lays.{scratch_parts, parts_rebuilt}
use Rattle.resume.proofs.rebuild_in.Goals as goal

ruleset answers = (rules, scratch_parts, parts_rebuilt)

pub returns : goal.returns
returns c = search answers
