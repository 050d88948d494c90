-- The engine is called, and its session laid by its answer.
use borrow.Author.Rules.{rules}
use Rattle.desk_law.proofs.Applying.{few-told}
use Rattle.desk.proofs.calls.carried.Goals as goal

ruleset answers = (rules, few-told)

pub lay_applied-requires : goal.lay_applied-requires
lay_applied-requires c = search answers
