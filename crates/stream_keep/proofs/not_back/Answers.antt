-- Each return is one case: a new day begins, or the bad line is told.
use Rattle.stream_law.proofs.Keeping.{refused-fresh, refused-told}
use borrow.Author.Rules.{rules}
use Rattle.stream_keep.proofs.not_back.Goals as goal

ruleset answers = (rules, refused-fresh, refused-told)

pub returns-then-is_unbegun : goal.returns-then-is_unbegun
returns-then-is_unbegun c = search answers
