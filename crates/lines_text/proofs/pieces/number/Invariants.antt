-- At each turn, the digits left make the number that the whole makes, and the value so far has as many digits as were read.
use lib.ListN.{drop}
use Rattle.lines_text_law.specs.code.Pieces.{number_on}
use Rattle.lines_text_law.proofs.Steps.{Digits}
use Rattle.lines_text.proofs.pieces.number.Given as goal

abbrev pub invariant-loop-d : goal.invariant-loop-d
invariant-loop-d l = Digits l.s l.at (number_on (drop l.at l.s) l.at) l.value l.next l.d-index
