-- The settings open a session or are refused.
use Rattle.stream_back.proofs.Openings.{opens-refused, opens-fine}
use borrow.Author.Rules.{rules}
use Rattle.stream_back.proofs.from_settings.Goals as goal

ruleset answers = (rules, opens-refused, opens-fine)

pub returns-in-Ok : goal.returns-in-Ok
returns-in-Ok c = search answers

pub returns-in-Err : goal.returns-in-Err
returns-in-Err c = search answers
