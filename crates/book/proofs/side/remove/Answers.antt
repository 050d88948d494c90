-- The slot that the search found is the one that the definition removes; where it found none, nothing changes.
use Rattle.book_law.proofs.Search.{remove_nothing, remove_none, remove_left, remove_done}
use borrow.Author.Rules.{rules}
use Rattle.book.proofs.side.remove.Goals as goal

ruleset answers = (rules, remove_nothing, remove_none, remove_left, remove_done)

pub returns-then-n-i : goal.returns-then-n-i
returns-then-n-i c = search answers

pub returns : goal.returns
returns c = search answers
