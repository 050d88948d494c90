-- Each answer is one case of what the program does.
use Rattle.stream_law.proofs.Keeping.{begun-counts, begun-refused}
use borrow.Author.Rules.{rules}
use Rattle.stream_keep.proofs.begin.Goals as goal

ruleset answers = (rules, begun-counts, begun-refused)

pub returns-in-Ok : goal.returns-in-Ok
returns-in-Ok c = search answers
