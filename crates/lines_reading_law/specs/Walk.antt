-- Document 01, "Session lines": what is answered at a place of saved bytes.
use Rattle.std.specs.Prelude.{ℕ, List, drop}
use Rattle.terms.specs.declared.Event.{Event}
use Rattle.lines_text_law.specs.Grammar.{LineAnswer}
use Rattle.lines_reading_law.specs.Answers.{read_event}

-- "After each line the rest of the bytes is handed on from there as a part": this is the reader's answer to the bytes from the place on.
-- Past the end there are none.
unfoldable pub read_at : List ℕ → ℕ → LineAnswer Event
read_at bytes place = read_event (drop place bytes)
