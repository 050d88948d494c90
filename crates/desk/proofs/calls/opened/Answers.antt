-- Each return is one case: the category is out of range, or it is one.
use Rattle.desk_law.proofs.Opens.{opened_out, opened_in}
use Rattle.desk.proofs.calls.opened.Goals as goal

pub returns-then-not-is_category : goal.returns-then-not-is_category
returns-then-not-is_category c = search opened_out

pub returns : goal.returns
returns c = search opened_in
