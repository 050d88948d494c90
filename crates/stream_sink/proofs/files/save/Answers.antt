-- No bytes; or the bytes behind their mark, and the wait for the disk.
use Rattle.stream_law.proofs.Sends.{saved-none, saved-some}
use borrow.Author.Rules.{rules}
use Rattle.stream_sink.proofs.files.save.Goals as goal

ruleset answers = (rules, saved-none, saved-some)

pub returns-then-is_empty : goal.returns-then-is_empty
returns-then-is_empty c = search answers

pub returns : goal.returns
returns c = search answers
