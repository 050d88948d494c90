-- The code tries the rows in the table's order, and each return is answered by the row that failed.
use Rattle.terms.proofs.Cascade.{cascade}
use Rattle.refusal_law.proofs.Carried.{carried_rows}
use Rattle.refusal_law.proofs.Places.{place-row}
use Rattle.refusal.proofs.rows.book_rows.Goals as goal

pub returns-then-not-band_right : goal.returns-then-not-band_right
returns-then-not-band_right c = search (cascade, carried_rows) depth 14

pub returns-then-not-finds_it : goal.returns-then-not-finds_it
returns-then-not-finds_it c = search (cascade, carried_rows) depth 14

pub returns-then-not-has_place : goal.returns-then-not-has_place
returns-then-not-has_place c = search (cascade, carried_rows, place-row) depth 14

pub returns-then-not-has_numbers : goal.returns-then-not-has_numbers
returns-then-not-has_numbers c = search (cascade, carried_rows, place-row) depth 14

pub returns : goal.returns
returns c = search (cascade, carried_rows, place-row) depth 14
