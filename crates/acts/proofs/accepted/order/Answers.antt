-- The clock steps come first, then the order on the tables that they leave.
use borrow.Author.Rules.{rules}
use Rattle.engine_law.proofs.Starts.{begins}
use Rattle.engine_law.proofs.Orders.{enters_on, ordered_done}
use Rattle.acts.proofs.accepted.order.Goals as goal

ruleset answers = (rules, begins, enters_on, ordered_done)

pub begin-b-requires : goal.begin-b-requires
begin-b-requires c = search answers

pub enter-requires : goal.enter-requires
enter-requires c = search answers

pub returns : goal.returns
returns c = search answers
