-- Each test of the code is one of the definition's.
use Rattle.book_law.specs.Priority.{ahead}
use Rattle.book.proofs.side.is_ahead.Goals as goal

pub returns : goal.returns
unfolding ahead
returns c = rw c.is_better.ensures
