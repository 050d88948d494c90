-- The same, where a read of the file fails.
use Rattle.stream_law.proofs.Logs.{broken_compared}
use borrow.Author.Rules.{rules}
use Rattle.stream_keep.proofs.compare_broken.Goals as goal

ruleset answers = (rules, broken_compared)

pub returns : goal.returns
returns c = search answers
