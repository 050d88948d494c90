-- The slot that the search found is where the definition inserts.
use Rattle.book_law.proofs.Search.{search_within, add_done}
use borrow.Author.Rules.{rules}
use Rattle.book.proofs.side.add.Goals as goal

ruleset answers = (rules, search_within, add_done)

pub put_in-requires : goal.put_in-requires
put_in-requires c = search answers

pub returns : goal.returns
returns c = search answers
