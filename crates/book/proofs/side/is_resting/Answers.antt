-- An order rests where the search stopped before the end.
use Rattle.book_law.proofs.Search.{rests_done}
use borrow.Author.Rules.{rules}
use Rattle.book.proofs.side.is_resting.Goals as goal

ruleset answers = (rules, rests_done)

pub returns : goal.returns
returns c = search answers
