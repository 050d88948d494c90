-- One arm for each verdict on the settings: the session is opened, or the refusal is told.
use Rattle.feed_law.proofs.Taking.{opens-fine, opens-refused}
use borrow.Author.Rules.{rules}
use Rattle.feed_turns.proofs.turns.opens.Goals as goal

ruleset answers = (rules, opens-fine, opens-refused)

pub returns-in-Ok : goal.returns-in-Ok
returns-in-Ok c = search answers

pub returns-in-Err : goal.returns-in-Err
returns-in-Err c = search answers
