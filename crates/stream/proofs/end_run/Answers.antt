-- Each return is one case: not all could be read, or the end is told behind all that was.
use Rattle.stream_law.proofs.Through.{ended-unread, ended-sent}
use borrow.Author.Rules.{rules}
use Rattle.stream.proofs.end_run.Goals as goal

ruleset answers = (rules, ended-unread, ended-sent)

pub returns : goal.returns
returns c = search answers
