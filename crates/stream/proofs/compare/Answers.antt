-- A run against an expected output tells what the comparison must tell.
use Rattle.stream_law.proofs.Through.{through_compares}
use borrow.Author.Rules.{rules}
use Rattle.stream.proofs.compare.Goals as goal

ruleset answers = (rules, through_compares)

pub returns : goal.returns
returns c = search answers
