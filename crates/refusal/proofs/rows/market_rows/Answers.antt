-- The code tries the rows in the table's order, and each return is answered by the row that failed.
use Rattle.terms.proofs.Cascade.{cascade}
use Rattle.refusal_law.proofs.Carried.{carried_rows}
use Rattle.refusal.proofs.rows.market_rows.Goals as goal

pub returns-then-not-in_hours : goal.returns-then-not-in_hours
returns-then-not-in_hours c = search (cascade, carried_rows) depth 14

pub returns-then-not-tick_right : goal.returns-then-not-tick_right
returns-then-not-tick_right c = search (cascade, carried_rows) depth 14

pub returns : goal.returns
returns c = search (cascade, carried_rows) depth 14
