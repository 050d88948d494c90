-- One arm for each answer of `apply`: the reports are printed, or the refusal is.
use Rattle.feed_law.proofs.Taking.{reports-held, lines-held, goes-told, goes-refused}
use borrow.Author.Rules.{rules}
use Rattle.feed_turns.proofs.turns.goes.Goals as goal

ruleset answers = (rules, reports-held, lines-held, goes-told, goes-refused)

pub tell_records-wrote-requires : goal.tell_records-wrote-requires
tell_records-wrote-requires c = search answers

pub returns-in-Ok : goal.returns-in-Ok
returns-in-Ok c = search answers

pub returns-in-Err : goal.returns-in-Err
returns-in-Err c = search answers
