-- At each turn, what is left of the word decides from here what the whole word decides: that is what the loop keeps.
use mathlib.Core.Path.{◌≡◌}
use lib.ListN.{drop}
use Rattle.lines_text_law.specs.code.Pieces.{word_on}
use Rattle.lines_text.proofs.pieces.word.Given as goal

abbrev pub invariant-loop-b : goal.invariant-loop-b
invariant-loop-b l = word_on l.w (drop l.at l.s) l.at ≡ word_on (drop l.b-index l.w) (drop l.next l.s) l.next
