-- A table is taken for right only where it is.
use Rattle.cases_resume.proofs.Parts.{left_as_lent, left_behind}
use Rattle.cases_resume.proofs.judging.is_left.Goals as goal

pub returns-then-not-moved : goal.returns-then-not-moved
returns-then-not-moved c = left_as_lent _ _ _ _ c.if-not-moved.true-raw c.all_are.ensures

pub returns : goal.returns
returns c =
    left_behind _ _ _ _ _ c.if-not-moved.false-raw c.all_are-2.ensures c.all_are-3.ensures
