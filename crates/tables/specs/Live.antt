-- The orders of a side that live, as code holds them.
use Rattle.std.specs.Prelude.{List}
use Rattle.terms.specs.declared.Order.{Order}
use Rattle.tables.specs.declared.side.Orders.{Orders}
use Rattle.tables.specs.Tables.{decode}

abbrev pub orders_in : Orders → List Order
orders_in o = decode o.count o.table.now
