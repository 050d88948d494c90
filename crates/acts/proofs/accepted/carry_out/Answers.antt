-- One arm for each act: what its call asks holds of the event, and what the call leaves is what the event leaves.
use borrow.Author.Rules.{rules}
use Rattle.engine_law.proofs.Dones.{ready_by, acted_by, under_begins, clock_begins, under_acted, clock_acted}
use Rattle.acts.proofs.accepted.carry_out.Goals as goal

ruleset answers = (rules, ready_by, acted_by, under_begins, clock_begins, under_acted, clock_acted)

pub only_clock-requires : goal.only_clock-requires
only_clock-requires c = search answers

pub only_clock-requires-in-Clock : goal.only_clock-requires-in-Clock
only_clock-requires-in-Clock c = search answers

pub returns-in-Under : goal.returns-in-Under
returns-in-Under c = search answers

pub returns-in-Clock : goal.returns-in-Clock
returns-in-Clock c = search answers
