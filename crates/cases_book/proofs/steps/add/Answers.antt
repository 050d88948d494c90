-- The tail is cleared, so the table holds its orders, and there is a free slot.
use Rattle.tables.proofs.Whole.{cleared_holds}
use borrow.Author.Rules.{rules}
use Rattle.cases_book.proofs.steps.add.Goals as goal

ruleset answers = (rules, cleared_holds)

pub add-requires : goal.add-requires
add-requires c = search answers
