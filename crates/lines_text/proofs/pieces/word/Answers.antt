-- At each turn, what is left of the word decides from here what the whole word decides: that is what the loop keeps.
use Rattle.lines_text_law.proofs.Steps.{word_turn}
use borrow.Author.Rules.{rules}
use Rattle.lines_text.proofs.pieces.word.Goals as goal

pub loop-b-preserved : goal.loop-b-preserved
loop-b-preserved c = search (rules, word_turn, c.in_ok-byte.was)
