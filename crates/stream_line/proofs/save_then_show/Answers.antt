-- One text is sent behind the other. The needs of the two calls have no names here, so that a code that exchanges them is refused at what the
-- contract says, and not at a name.
use Rattle.stream_law.proofs.Sends.{sent_then}
use borrow.Author.Rules.{rules}
use Rattle.stream_line.proofs.save_then_show.Goals as goal

ruleset answers = (rules, sent_then)

pub returns : goal.returns
returns c = search answers
