-- Each return is one case: the sum does not fit, the bytes count, or a line is bad.
use Rattle.resume_law.specs.Pieces.StoodAs.{counts}
use Rattle.resume_pieces.proofs.Parts.{stood-over, stood_far, stood-refuses}
use borrow.Author.Rules.{rules}
use Rattle.resume_pieces.proofs.stood.Goals as goal

ruleset answers = (rules, counts, stood-over, stood_far, stood-refuses)

pub returns-else-n-most : goal.returns-else-n-most
returns-else-n-most c = search answers

pub returns-else-bad-most : goal.returns-else-bad-most
returns-else-bad-most c = search answers
