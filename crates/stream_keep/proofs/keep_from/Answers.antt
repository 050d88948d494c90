-- Each return is one case: the file could not be read, or what it brought back went on.
use Rattle.stream_law.proofs.Keeping.{kept-ran, kept-unread}
use borrow.Author.Rules.{rules}
use Rattle.stream_keep.proofs.keep_from.Goals as goal

ruleset answers = (rules, kept-ran, kept-unread)

pub returns-then-not-back : goal.returns-then-not-back
returns-then-not-back c = search answers

pub returns : goal.returns
returns c = search answers
