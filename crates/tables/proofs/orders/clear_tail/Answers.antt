-- The zeros cover exactly what lies between the live orders and the table's end.
use Rattle.tables.proofs.Whole.{tail_cleared}
use Rattle.tables.proofs.orders.clear_tail.Goals as goal

pub returns : goal.returns
returns c = search tail_cleared
