-- The order that traded in part is changed in its slot, then the orders before it are taken out.
use Rattle.matching_law.proofs.Settles.{settle_none, settle_low, settle_fits, settle_less, settle_holds, settle_done, head_there}
use borrow.Author.Rules.{rules}
use Rattle.matching.proofs.crossing.settle.Goals as goal

ruleset answers = (rules, settle_none, settle_low, settle_fits, settle_less, settle_holds, settle_done, head_there)

pub returns-then-lots-eq0 : goal.returns-then-lots-eq0
returns-then-lots-eq0 c = search answers

pub order_at-o-requires : goal.order_at-o-requires
order_at-o-requires c = search answers

pub overflow_sub-kept : goal.overflow_sub-kept
overflow_sub-kept c = search answers

pub change-requires : goal.change-requires
change-requires c = search answers

pub remove_first-requires-2 : goal.remove_first-requires-2
remove_first-requires-2 c = search answers

pub returns : goal.returns
returns c = search answers
