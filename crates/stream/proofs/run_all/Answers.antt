-- What was read, and then its end.
use Rattle.stream_law.proofs.Through.{run_through}
use borrow.Author.Rules.{rules}
use Rattle.stream.proofs.run_all.Goals as goal

ruleset answers = (rules, run_through)

pub returns : goal.returns
returns c = search answers
