-- Bytes that come next end within the expected text, or there are none.
use Rattle.stream_law.proofs.Beginnings.{next_fits}
use borrow.Author.Rules.{rules}
use Rattle.stream_sink.proofs.comparing.hold.Goals as goal

ruleset answers = (rules, next_fits)

pub overflow_add-result : goal.overflow_add-result
overflow_add-result c = search answers
