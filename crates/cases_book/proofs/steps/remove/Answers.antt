-- The tail is cleared, so the table holds its orders.
use Rattle.tables.proofs.Whole.{cleared_holds}
use borrow.Author.Rules.{rules}
use Rattle.cases_book.proofs.steps.remove.Goals as goal

ruleset answers = (rules, cleared_holds)

pub remove-lots-requires : goal.remove-lots-requires
remove-lots-requires c = search answers
