-- Each return is one case: the byte stands for a number, or for itself.
use Rattle.lines_text_law.proofs.Fills.{number-there, number_fits, number-placed, byte_fits, byte-placed}
use borrow.Author.Rules.{rules}
use Rattle.lines_text.proofs.room.put_piece.Goals as goal

ruleset answers = (rules, number-there, number_fits, number-placed, byte_fits, byte-placed)

pub returns : goal.returns
returns c = search answers
