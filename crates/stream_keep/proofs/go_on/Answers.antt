-- The file is cut, and the lines are taken; or it could not be cut.
use Rattle.stream_law.proofs.Keeping.{on-uncut, on_through}
use borrow.Author.Rules.{rules}
use Rattle.stream_keep.proofs.go_on.Goals as goal

ruleset answers = (rules, on-uncut, on_through)

pub returns-then-not-is_open : goal.returns-then-not-is_open
returns-then-not-is_open c = search answers

pub returns : goal.returns
returns c = search answers
