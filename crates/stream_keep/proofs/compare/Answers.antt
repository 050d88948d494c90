-- A comparison with two texts tells what it must of their log.
use Rattle.stream_law.proofs.Logs.{log_compared}
use borrow.Author.Rules.{rules}
use Rattle.stream_keep.proofs.compare.Goals as goal

ruleset answers = (rules, log_compared)

pub returns : goal.returns
returns c = search answers
