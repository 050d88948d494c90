-- What was copied is what came.
use Rattle.stream_source.proofs.Texts.{copied_fits, text_read}
use borrow.Author.Rules.{rules}
use Rattle.stream_source.proofs.read_text.Goals as goal

ruleset answers = (rules, copied_fits, text_read)

pub returns : goal.returns
returns c = search answers
