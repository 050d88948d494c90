-- The call of feed leaves its text in the output room, and the text is sent from there.
use Rattle.stream_law.proofs.Calls.{hands}
use borrow.Author.Rules.{rules}
use Rattle.stream_feed.proofs.hand_in.Goals as goal

ruleset answers = (rules, hands)

pub returns : goal.returns
returns c = search answers
