-- Kind and time, then the four fields as they are.
use borrow.Author.Rules.{rules}
use Rattle.tables.proofs.Written.{record_made}
use Rattle.tables.proofs.room.record.Goals as goal

pub returns : goal.returns
returns c = search (rules, record_made)
