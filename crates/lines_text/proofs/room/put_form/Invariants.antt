-- At each turn, putting what is left of the form into the room as it stands gives what putting the whole form gives.
use Rattle.lines_text_law.proofs.Fills.{Left}
use Rattle.lines_text.proofs.room.put_form.Given as goal

abbrev pub invariant-loop-b : goal.invariant-loop-b
invariant-loop-b l =
    Left l.initial.room l.form l.numbers l.initial.spot l.room l.spot l.b-index
