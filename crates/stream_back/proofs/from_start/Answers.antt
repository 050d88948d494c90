-- What was read stands in the buffer.
use Rattle.stream_back.proofs.Rests.{filled_within, filled-ended, filled_as}
use borrow.Author.Rules.{rules}
use Rattle.stream_back.proofs.from_start.Goals as goal

ruleset answers = (rules, filled_within, filled-ended, filled_as)

pub returns : goal.returns
returns c = search answers
