-- Document 02, item 4: "The app saves each accepted event as its line, after the settings line".
use Rattle.std.specs.Prelude.{ℕ, ◌-◌, ◌≡◌, Bool, true, false, cond, List, [], ◌∷◌, ◌++◌, length, leb, Ok, Err}
use Rattle.terms.specs.declared.Event.{Event}
use Rattle.terms.specs.declared.Settings.{Settings}
use Rattle.terms.specs.Refusals.{Verdict}
use Rattle.lines_reading_law.specs.Lines.{render_event, render_settings}
use Rattle.state_law.specs.Day.{Day}
use Rattle.engine_law.specs.Outcome.{outcome}

-- the lines of events, one after the other
unfoldable pub event_lines : List Event → List ℕ
event_lines [] = []
event_lines (e ∷ es) = render_event e ++ event_lines es

-- the saved bytes of settings and events
abbrev pub saved : Settings → List Event → List ℕ
saved g es = render_settings g ++ event_lines es

-- whether there is an event
abbrev pub any_event : List Event → Bool
any_event [] = false
any_event (e ∷ es) = true

-- each event is accepted, on the day that those before it left
abbrev pub AllAccepted : Day → List Event → Type 0
AllAccepted d [] = Unit {0}
AllAccepted d (e ∷ es) = ((outcome d e).verdict ≡ Ok tt) × AllAccepted (outcome d e).day es

-- "each accepted event": those of any run that are accepted
abbrev pub kept_by : Verdict → Event → List Event → List Event
kept_by (Ok _) e es = e ∷ es
kept_by (Err r) e es = es

unfoldable pub accepted_of : Day → List Event → List Event
accepted_of d [] = []
accepted_of d (e ∷ es) = kept_by (outcome d e).verdict e (accepted_of (outcome d e).day es)

-- "all whole events": the first of them, as many as have their lines within n bytes
unfoldable pub whole_in : ℕ → List Event → List Event
whole_in n [] = []
whole_in n (e ∷ es) = cond (leb (length (render_event e)) n) (e ∷ whole_in (n - length (render_event e)) es) []
