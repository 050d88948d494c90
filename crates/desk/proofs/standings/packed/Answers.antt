-- The code lists the definition's numbers in the same order.
use borrow.Author.Rules.{rules}
use Rattle.desk_law.proofs.Stands.{standing_packed}
use Rattle.desk.proofs.standings.packed.Goals as goal

ruleset answers = (rules, standing_packed)

pub returns : goal.returns
returns c = search answers
