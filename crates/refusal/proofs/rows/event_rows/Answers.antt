-- The code tries the rows in the table's order, and each return is answered by the row that failed.
use Rattle.terms.proofs.Cascade.{cascade}
use Rattle.refusal_law.proofs.Carried.{carried_rows}
use Rattle.refusal.proofs.rows.event_rows.Goals as goal

pub returns-then-not-running : goal.returns-then-not-running
returns-then-not-running c = search cascade depth 14

pub returns-then-not-numbers_right : goal.returns-then-not-numbers_right
returns-then-not-numbers_right c = search (cascade, carried_rows) depth 14

pub returns-then-not-forward : goal.returns-then-not-forward
returns-then-not-forward c = search (cascade, carried_rows) depth 14

pub returns : goal.returns
returns c = search (cascade, carried_rows) depth 14
