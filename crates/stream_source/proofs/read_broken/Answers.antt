-- What was copied is what came; where there is nothing left the read fails.
use Rattle.stream_source.proofs.Texts.{copied_fits, broken_read, broken-end}
use borrow.Author.Rules.{rules}
use Rattle.stream_source.proofs.read_broken.Goals as goal

ruleset answers = (rules, copied_fits, broken_read, broken-end)

pub returns : goal.returns
returns c = search answers
