-- The run starts afresh, with tables of zeros.
use Rattle.stream_law.proofs.Through.{fresh_through}
use borrow.Author.Rules.{rules}
use Rattle.stream.proofs.through.Goals as goal

ruleset answers = (rules, fresh_through)

pub returns : goal.returns
returns c = search answers
