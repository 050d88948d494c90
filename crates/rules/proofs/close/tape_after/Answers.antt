-- Each field of the tape is what its call answers.
use Rattle.rules_law.specs.Close.{tape_after}
use Rattle.rules.proofs.close.tape_after.Goals as goal

pub returns : goal.returns
unfolding tape_after
returns c = simp (c.half_after.ensures, c.pushed-2.ensures, c.pushed.ensures)
