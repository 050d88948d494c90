-- The zeros stand in the place of the part.
use borrow.Author.Rules.{rules}
use Rattle.tables.proofs.Copies.{cleared_put}
use Rattle.tables.proofs.flat.clear.Goals as goal

pub returns : goal.returns
returns c = search (rules, cleared_put)
