-- The clock steps come first, then the cancel on the tables that they leave.
use borrow.Author.Rules.{rules}
use Rattle.engine_law.proofs.Starts.{begins}
use Rattle.engine_law.proofs.Dones.{cancel-asks, cancel_acted}
use Rattle.acts.proofs.accepted.cancel.Goals as goal

ruleset answers = (rules, begins, cancel-asks, cancel_acted)

pub begin-b-requires : goal.begin-b-requires
begin-b-requires c = search answers

pub withdraw-requires : goal.withdraw-requires
withdraw-requires c = search answers

pub returns : goal.returns
returns c = search answers
