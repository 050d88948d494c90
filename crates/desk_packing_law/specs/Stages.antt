-- A RUN OF THE PROGRAM as 45 numbers: its stage (0 awaiting settings, 1 trading, 2 over), then the 44 of its session.
use Rattle.std.specs.Prelude.{ℕ, Bool, cond, List, ◌∷◌, leb, eqb, get_or, drop}
use Rattle.terms.specs.Truth.{◌⊓◌}
use Rattle.state_law.specs.Opening.{fixed_session}
use Rattle.feed_law.specs.declared.Run.{Run}
use Rattle.feed_law.specs.declared.Stage.{Stage}
use Rattle.desk_packing_law.specs.Sessions.{session_numbers, is_session, session_from}

abbrev pub run_length : ℕ
run_length = 45

abbrev pub stage_number : Stage → ℕ
stage_number Stage.Awaiting = 0
stage_number Stage.Trading = 1
stage_number Stage.Over = 2

unfoldable pub run_numbers : Run → List ℕ
run_numbers r = stage_number r.stage ∷ session_numbers r.session

-- whether numbers are a run's: the first is a stage, and the others are a session's
unfoldable pub is_run : List ℕ → Bool
is_run ns = leb (get_or ns 0 0) 2 ⊓ is_session (drop 1 ns)

abbrev pub stage_from : ℕ → Stage
stage_from n = cond (eqb n 0) Stage.Awaiting (cond (eqb n 1) Stage.Trading Stage.Over)

-- a run that takes no line and prints nothing
abbrev pub over_run : Run
over_run = record { stage = Stage.Over; session = fixed_session }

-- any other numbers are read as a run that is over
unfoldable pub run_from : List ℕ → Run
run_from ns = cond (is_run ns) (record { stage = stage_from (get_or ns 0 0); session = session_from (drop 1 ns) }) over_run
