-- Two slices may be too short; then the first is no session's, or it is one and the engine is called.
use borrow.Author.Rules.{rules}
use Rattle.desk_law.proofs.Applying.{apply_no-session, apply_no-event, apply_strange, carried_on}
use Rattle.desk.proofs.calls.kakoludar_apply.Goals as goal

ruleset answers = (rules, apply_no-session, apply_no-event, apply_strange, carried_on)

pub returns-then-session-lt-SESSION : goal.returns-then-session-lt-SESSION
returns-then-session-lt-SESSION c = search answers

pub returns-then-event-lt-EVENT : goal.returns-then-event-lt-EVENT
returns-then-event-lt-EVENT c = search answers

pub returns-then-not-is_session : goal.returns-then-not-is_session
returns-then-not-is_session c = search answers

pub returns : goal.returns
returns c = search answers
