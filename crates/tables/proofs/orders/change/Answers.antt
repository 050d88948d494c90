-- The new order's numbers are written over those of its slot.
use Rattle.tables.proofs.Whole.{swap_done}
use Rattle.tables.proofs.orders.change.Goals as goal

pub returns : goal.returns
returns c = search swap_done
