-- Each return of `kakoludar_open` leaves what the definition says; and whether a session is sound, as code comes to it.
use Prim.Native.Nat.{ℕ, ◌≤◌, ◌<◌}
use mathlib.Core.Path.{◌≡◌}
use mathlib.Core.Bool.{Bool, true, false, not}
use mathlib.Core.List.{List}
use borrow.Author.Tests.{lt-ltb, le-ltb, not-true, not-false}
use lib.ListN.{length, get_or}
use Rattle.std.specs.Prelude.{Err}
use Rattle.terms.specs.declared.Refusal.TheVariants.{SmallRoom, SettingsRange}
use Rattle.terms.specs.declared.Settings.{Settings}
use Rattle.tables.specs.Lengths.{table_length}
use Rattle.tables.specs.Put.{put}
use Rattle.state_law.specs.declared.Session.{Session}
use Rattle.state_law.specs.declared.Opened.{Opened}
use Rattle.state_law.specs.Opening.{opening_of, fixed_session}
use Rattle.soundness_law.specs.Sound.{sound, day_in}
use Rattle.desk_packing_law.specs.Runs.{settings_length, session_length}
use Rattle.desk_packing_law.specs.Settings.{is_category, settings_from}
use Rattle.desk_packing_law.specs.Sessions.{flag, session_numbers, session_from}
use Rattle.desk_packing_law.specs.Answers.{answer_of}
use Rattle.desk_law.specs.Calls.{opened_from, OpenedAs, sound_on}

-- `found` is the outcome of the code's test whether the category is one
module _ (gs : List ℕ) (found : Bool) (h : found ≡ is_category (get_or gs 0 0)) where
  pub opened_out : (s : Session) → not found ≡ true → s ≡ fixed_session → record { verdict = Err SettingsRange; session = s } ≡ opened_from gs
  unfolding opened_from
  opened_out s t e = rw (← h, not-true found t, e)

  pub opened_in : (g : Settings) (o : Opened) → not found ≡ false → g ≡ settings_from gs → o ≡ opening_of g → o ≡ opened_from gs
  unfolding opened_from
  opened_in g o t e f = rw (← h, not-false found t, ← e) f

module _ (gs run : List ℕ) (r : ℕ) where
  pub open_no-settings : length gs < settings_length → r ≡ answer_of (Err SmallRoom) 0 → OpenedAs gs run run r
  open_no-settings h e = record { answer = rw (lt-ltb (length gs) settings_length h) e; laid = rw (lt-ltb (length gs) settings_length h) }

  module _ (h : settings_length ≤ length gs) where
    pub open_no-session : length run < session_length → r ≡ answer_of (Err SmallRoom) 0 → OpenedAs gs run run r
    open_no-session k e =
        record {
          answer = rw (le-ltb (length gs) settings_length h, lt-ltb (length run) session_length k) e;
          laid = rw (le-ltb (length gs) settings_length h, lt-ltb (length run) session_length k);
        }

    pub open_done : (run' ns : List ℕ) (o : Opened) → session_length ≤ length run → o ≡ opened_from gs → ns ≡ session_numbers o.session →
        run' ≡ put run 0 ns → r ≡ answer_of o.verdict 0 → OpenedAs gs run run' r
    open_done run' ns o k e f l a =
        record {
          answer = rw (le-ltb (length gs) settings_length h, le-ltb (length run) session_length k, ← e) a;
          laid = rw (le-ltb (length gs) settings_length h, le-ltb (length run) session_length k, ← e, ← f) l;
        }

-- ---- whether a session is sound, on runs that are long enough

pub sound-answered : (run buys sells : List ℕ) (s : Session) (found : Bool) (r : ℕ) → session_length ≤ length run → table_length ≤ length buys → table_length ≤ length sells →
    s ≡ session_from run → found ≡ sound (day_in s buys sells) → r ≡ flag found → r ≡ sound_on run buys sells
unfolding sound_on
sound-answered run buys sells s found r h b t i e f =
    rw (le-ltb (length run) session_length h, le-ltb (length buys) table_length b, le-ltb (length sells) table_length t, ← i, ← e) f
