-- The record is written as two runs of three numbers, one behind the other.
use borrow.Author.Rules.{rules}
use Rattle.tables.proofs.Written.{record_stored}
use Rattle.tables.proofs.room.put_record.Goals as goal

pub returns : goal.returns
returns c = search (rules, record_stored)
