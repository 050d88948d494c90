-- At each turn, putting what is left of the form into the room as it stands gives what putting the whole form gives.
use Rattle.lines_text_law.proofs.Fills.{left-all, left-fits, left_turn, left-none}
use borrow.Author.Rules.{rules}
use Rattle.lines_text.proofs.room.put_form.Goals as goal

ruleset answers = (rules, left-all, left-fits, left_turn, left-none)

pub put_piece-spot-requires : goal.put_piece-spot-requires
put_piece-spot-requires c = search answers

pub loop-b-preserved : goal.loop-b-preserved
loop-b-preserved c = search answers

pub returns : goal.returns
returns c = search answers
