-- The bytes are moved as std moves them.
use Rattle.stream_law.proofs.Front.{moved_front}
use borrow.Author.Rules.{rules}
use Rattle.stream_feed.proofs.to_front.Goals as goal

ruleset answers = (rules, moved_front)

pub returns : goal.returns
returns c = search answers
