-- The orders from slot i on move up by one slot, over zeros, and the new one takes their first place.
use Rattle.tables.proofs.Whole.{grow_done}
use Rattle.tables.proofs.orders.put_in.Goals as goal

pub returns : goal.returns
returns c = search grow_done
