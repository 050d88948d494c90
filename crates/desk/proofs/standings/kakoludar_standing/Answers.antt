-- Two slices may be too short; otherwise the engine is asked, and its answer written.
use borrow.Author.Rules.{rules}
use Rattle.desk_law.proofs.Stands.{stand_no-session, stand_no-standing, stand_done}
use Rattle.desk.proofs.standings.kakoludar_standing.Goals as goal

ruleset answers = (rules, stand_no-session, stand_no-standing, stand_done)

pub returns-then-session-lt-SESSION : goal.returns-then-session-lt-SESSION
returns-then-session-lt-SESSION c = search answers

pub returns-then-standing-lt-STANDING : goal.returns-then-standing-lt-STANDING
returns-then-standing-lt-STANDING c = search answers

pub returns : goal.returns
returns c = search answers
