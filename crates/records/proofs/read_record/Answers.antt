-- The place is past the room's end, or there is no whole record, or one is read.
use borrow.Author.Rules.{rules}
use Rattle.records_law.proofs.Told.{past_end, not_whole, record_found}
use Rattle.records.proofs.read_record.Goals as goal

pub returns-in_err-get : goal.returns-in_err-get
returns-in_err-get c = past_end c.args.room.now c.args.at _ (search rules) (search rules)

pub returns-in_err-numbers : goal.returns-in_err-numbers
returns-in_err-numbers c = not_whole c.args.room.now c.in_ok-get.field-0.now c.args.at _ (search rules) (search rules) (search rules)

pub returns : goal.returns
returns c =
    record_found c.args.room.now c.in_ok-get.field-0.now c.in_ok-numbers.numbers.now c.args.at _ (search rules) (search rules) (search rules) (search rules)
    c.report_in.ensures
