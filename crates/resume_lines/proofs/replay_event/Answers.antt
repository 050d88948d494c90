-- The line is told by the answer of `apply`.
use borrow.Author.Rules.{rules}
use Rattle.resume_law.proofs.Steps.{event-replayed}
use Rattle.resume_lines.proofs.replay_event.Goals as goal

ruleset answers = (rules, event-replayed)

pub returns : goal.returns
returns c = search answers
