-- No bytes; or the bytes behind their mark.
use Rattle.stream_law.proofs.Sends.{shown_none, shown_some}
use borrow.Author.Rules.{rules}
use Rattle.stream_sink.proofs.show.Goals as goal

ruleset answers = (rules, shown_none, shown_some)

pub returns-then-is_empty : goal.returns-then-is_empty
returns-then-is_empty c = search answers
