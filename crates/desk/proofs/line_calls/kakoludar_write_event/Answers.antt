-- The slice may be too short; otherwise its numbers are an event's, or no event's.
use Rattle.desk_law.proofs.LineWrites.{event-no-run, event-few, event-written, event-none}
use Rattle.desk.proofs.line_calls.kakoludar_write_event.Goals as goal

pub returns-then-event-lt-EVENT : goal.returns-then-event-lt-EVENT
returns-then-event-lt-EVENT c = search event-no-run

pub wrote-requires : goal.wrote-requires
wrote-requires c = search event-few

pub returns-in-Some : goal.returns-in-Some
returns-in-Some c = search event-written

pub returns-in-None : goal.returns-in-None
returns-in-None c = search event-none
