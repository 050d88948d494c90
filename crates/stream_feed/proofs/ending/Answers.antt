-- All whole lines are handed over first, and then the end is told of the bytes that are left.
use Rattle.stream_law.proofs.Ending.{ends_as}
use borrow.Author.Rules.{rules}
use Rattle.stream_feed.proofs.ending.Goals as goal

ruleset answers = (rules, ends_as)

pub returns : goal.returns
returns c = search answers
