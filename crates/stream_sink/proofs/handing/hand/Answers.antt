-- The mark, and the bytes behind it.
use Rattle.stream_law.proofs.Sends.{sent-behind}
use borrow.Author.Rules.{rules}
use Rattle.stream_sink.proofs.handing.hand.Goals as goal

ruleset answers = (rules, sent-behind)

pub returns : goal.returns
returns c = search answers
