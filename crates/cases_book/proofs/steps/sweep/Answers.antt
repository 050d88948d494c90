-- The tail is cleared, so the table holds its orders, and the room is long enough for a report of each.
use Rattle.tables.proofs.Whole.{cleared_holds}
use borrow.Author.Rules.{rules}
use Rattle.cases_book.proofs.steps.sweep.Goals as goal

ruleset answers = (rules, cleared_holds)

pub sweep-m-requires : goal.sweep-m-requires
sweep-m-requires c = search answers
