-- The turn says what is saved and what is printed; the one is handed on before the other.
use Rattle.stream_law.proofs.Lines.{keeps}
use borrow.Author.Rules.{rules}
use Rattle.stream_line.proofs.keep_in.Goals as goal

ruleset answers = (rules, keeps)

pub returns : goal.returns
returns c = search answers
