-- WHAT A CALL WRITES, THE NEXT CALL READS: calls on an app's numbers are calls on sessions, events and settings. So every promise on runs
-- of calls of the engine holds for an app that keeps its numbers between calls.
use Prim.Native.Nat.{ℕ, ◌≤◌}
use mathlib.Core.Path.{◌≡◌, refl, sym, ap, ◌∙◌}
use mathlib.Core.List.{List}
use borrow.Author.Tests.{le-ltb}
use lib.ListN.{length, get_or, drop}
use Rattle.std.specs.Prelude.{Ok, Err}
use Rattle.terms.specs.declared.Event.{Event}
use Rattle.terms.specs.declared.Settings.{Settings}
use Rattle.terms.specs.Refusals.{Verdict}
use Rattle.terms.proofs.Logic.{by}
use Rattle.tables.specs.Put.{put}
use Rattle.lines_text_law.specs.Grammar.{whole}
use Rattle.state_law.specs.declared.Session.{Session}
use Rattle.state_law.specs.declared.Opened.{Opened}
use Rattle.soundness_law.specs.Sound.{day_in}
use Rattle.acts_law.specs.Acts.{act}
use Rattle.engine_law.specs.Outcome.{decided}
use Rattle.engine_law.specs.Calls.{call_verdict, called}
use Rattle.lines_reading_law.specs.Answers.{read_event, read_settings}
use Rattle.desk_packing_law.specs.Runs.{settings_length, session_length, event_length}
use Rattle.desk_packing_law.specs.Settings.{is_category, settings_numbers, settings_from}
use Rattle.desk_packing_law.specs.Sessions.{session_from}
use Rattle.desk_packing_law.specs.Events.{event_numbers, event_from}
use Rattle.desk_packing_law.proofs.Inverse.{from_ten, laid_back, settings_back_lem}
use Rattle.desk_packing_law.proofs.EventInverse.{event_back_lem}
use Rattle.desk_law.specs.Calls.{opened_from, OpenedAs, called_on, run_by, AppliedOn}
use Rattle.desk_law.specs.Reads.{EventReadInto, SettingsReadInto}
use Rattle.acts_law.proofs.Tens.{act_ten}
use Rattle.state_law.specs.code.Tens.{Ten}
use Rattle.state_law.proofs.Tens.{fixed_ten, opening_ten}

-- ---- open

opened_ten : (gs : List ℕ) → Ten (opened_from gs).session
unfolding opened_from
opened_ten gs = by (λ (o : Opened). Ten o.session) (is_category (get_or gs 0 0)) _ _ (λ e. opening_ten (settings_from gs)) (λ e. fixed_ten)

pub opened_again : (gs run run' : List ℕ) (r : ℕ) → settings_length ≤ length gs → session_length ≤ length run → OpenedAs gs run run' r →
    session_from run' ≡ (opened_from gs).session
opened_again gs run run' r h k o =
    ap session_from o.laid
    ∙ rw (le-ltb (length gs) settings_length h, le-ltb (length run) session_length k) (laid_back run (opened_from gs).session (opened_ten gs))

-- ---- apply

-- an accepted event's session is written, and a refused one leaves the numbers as they were
run_again : (run : List ℕ) (s : Session) (e : Event) (buys sells room : List ℕ) → s ≡ session_from run →
    session_from (run_by (called s e buys sells room).verdict (called s e buys sells room).day.session run) ≡ (called s e buys sells room).day.session
unfolding called
run_again run s e buys sells room i = go (call_verdict s e buys sells room)
  where
    go : (v : Verdict) →
        session_from (run_by (decided v (day_in s buys sells) (act (day_in s buys sells) e)).verdict (decided v (day_in s buys sells) (act (day_in s buys sells) e)).day.session run)
        ≡ (decided v (day_in s buys sells) (act (day_in s buys sells) e)).day.session
    go (Ok _) = laid_back run (act (day_in s buys sells) e).day.session (act_ten (day_in s buys sells) e (rw i (from_ten run)))
    go (Err r) = sym i

pub applied_again : (run event buys sells room run' buys' sells' room' : List ℕ) (r : ℕ) → session_length ≤ length run → event_length ≤ length event →
    AppliedOn run event buys sells room run' buys' sells' room' r → session_from run' ≡ (called (session_from run) (event_from event) buys sells room).day.session
unfolding called_on
applied_again run event buys sells room run' buys' sells' room' r h k o =
    ap session_from o.kept
    ∙ rw (le-ltb (length run) session_length h, le-ltb (length event) event_length k) (run_again run (session_from run) (event_from event) buys sells room refl)

-- ---- the calls that read a line

pub event_again : (line run run' : List ℕ) (r : ℕ) (e : Event) (n : ℕ) → event_length ≤ length run → read_event line ≡ whole e n → EventReadInto line run run' r →
    event_from run' ≡ e
unfolding put
event_again line run run' r e n h q o =
    ap event_from o.laid ∙ rw (le-ltb (length run) event_length h, q) (event_back_lem e (drop (length (event_numbers e)) run))

pub settings_again : (line run run' : List ℕ) (r : ℕ) (g : Settings) (n : ℕ) → settings_length ≤ length run → read_settings line ≡ whole g n →
    SettingsReadInto line run run' r → settings_from run' ≡ g
unfolding put
settings_again line run run' r g n h q o =
    ap settings_from o.laid ∙ rw (le-ltb (length run) settings_length h, q) (settings_back_lem g (drop (length (settings_numbers g)) run))
