-- What std copies within a slice is the part, put at its new place.
use borrow.Author.Rules.{rules}
use Rattle.tables.proofs.Copies.{copied_put}
use Rattle.tables.proofs.flat.shift.Goals as goal

pub returns : goal.returns
returns c = search (rules, copied_put)
