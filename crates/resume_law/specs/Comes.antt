-- COMING BACK, in the paper's words: what is promised of `resumed`.
use Rattle.std.specs.Prelude.{ℕ, ◌+◌, ◌-◌, ◌≤◌, ◌<◌, ◌≡◌, false, List, [], ◌∷◌, ◌++◌, length, take, Ok, Err}
use Rattle.terms.specs.declared.Event.{Event}
use Rattle.terms.specs.declared.Settings.{Settings}
use Rattle.terms.specs.declared.Refusal.{Refusal}
use Rattle.terms.specs.declared.Refusal.TheVariants.{LineUnfinished, LineWrong, LineRefused}
use Rattle.terms.specs.Settings.{settings_verdict}
use Rattle.lines_text_law.specs.Grammar.{unfinished, wrong}
use Rattle.lines_reading_law.specs.Lines.{render_event, render_settings, EventLine, SettingsLine}
use Rattle.lines_reading_law.specs.Answers.{read_event, read_settings}
use Rattle.state_law.specs.Opening.{fixed_session}
use Rattle.state_law.specs.Day.{Day, opened}
use Rattle.engine_law.specs.Outcome.{outcome, after, told}
use Rattle.resume_law.specs.Answers.{bad_at}
use Rattle.resume_law.specs.Saved.{event_lines, saved, any_event, AllAccepted, accepted_of, whole_in}
use Rattle.resume_law.specs.Rebuilt.{Rebuilt, rebuilt, refused, resumed}

-- ---- any accepted run, any cut

-- "From the saved bytes cut after any byte, resume rebuilds exactly the session and tables of the settings and all whole events, drops the
-- unfinished tail and says how many bytes count."
abbrev pub CutComesBack : Type 0
CutComesBack =
    (g : Settings) (es : List Event) (k : ℕ) → settings_verdict g ≡ Ok tt → AllAccepted (opened g) es → length (render_settings g) ≤ k →
    let held : List Event = whole_in (k - length (render_settings g)) es in
    resumed (take k (saved g es)) ≡ rebuilt (length (saved g held)) (any_event held) (after (opened g) held)

-- "Without a whole settings line no session comes back: 14"
abbrev pub CutInSettings : Type 0
CutInSettings =
    (g : Settings) (es : List Event) (k : ℕ) → settings_verdict g ≡ Ok tt → k < length (render_settings g) →
    resumed (take k (saved g es)) ≡ refused LineUnfinished 0

-- the whole events are the first ones; their lines lie within the bytes, and the next one's does not
pub record Wholes (n : ℕ) (es : List Event) : Type 0 where
  pub later : List Event
  pub first : es ≡ whole_in n es ++ later
  pub within : length (event_lines (whole_in n es)) ≤ n
  pub most : (e : Event) (rest : List Event) → later ≡ e ∷ rest → n < length (event_lines (whole_in n es)) + length (render_event e)

abbrev pub WholesAreWhole : Type 0
WholesAreWhole = (n : ℕ) (es : List Event) → Wholes n es

-- "The clock is that of the last whole event."
abbrev pub ClockIsLast : Type 0
ClockIsLast = (d : Day) (es : List Event) (e : Event) → AllAccepted d (es ++ (e ∷ [])) → (after d (es ++ (e ∷ []))).session.clock.time ≡ e.time

-- what the app saves of any run, refused events and all: each is accepted again, and they leave the same day and tell the same reports
pub record Replays (d : Day) (es : List Event) : Type 0 where
  pub accepted : AllAccepted d (accepted_of d es)
  pub same_day : after d (accepted_of d es) ≡ after d es
  pub same_told : told d (accepted_of d es) ≡ told d es

abbrev pub SavedReplays : Type 0
SavedReplays = (d : Day) (es : List Event) → Replays d es

-- ---- any bytes at all: which lines they are, from what is written, and the first bad one

pub data FoundAs (bytes : List ℕ) : Rebuilt → Type 0 where
  -- "14"
  settings_unfinished : read_settings bytes ≡ unfinished → FoundAs bytes (refused LineUnfinished 0)
  -- "or 15 where the bytes begin none"
  settings_wrong : (n : ℕ) → read_settings bytes ≡ wrong n → FoundAs bytes (refused LineWrong n)
  -- "22 where the engine refuses it, settings included, with its start"
  settings_refused : (g : Settings) (line rest : List ℕ) (r : Refusal) → bytes ≡ line ++ rest → SettingsLine g line → settings_verdict g ≡ Err r →
      FoundAs bytes (refused LineRefused 0)
  -- settings and accepted events, and then nothing or the start of a line
  comes_back : (g : Settings) (es : List Event) (tail : List ℕ) → bytes ≡ saved g es ++ tail → settings_verdict g ≡ Ok tt →
      AllAccepted (opened g) es → read_event tail ≡ unfinished → FoundAs bytes (rebuilt (length (saved g es)) (any_event es) (after (opened g) es))
  -- settings and accepted events, and then what begins no line
  line_wrong : (g : Settings) (es : List Event) (tail : List ℕ) (n : ℕ) → bytes ≡ saved g es ++ tail → settings_verdict g ≡ Ok tt →
      AllAccepted (opened g) es → read_event tail ≡ wrong n → FoundAs bytes (refused LineWrong (length (saved g es) + n))
  -- settings and accepted events, and then one that is refused
  line_refused : (g : Settings) (es : List Event) (e : Event) (line tail : List ℕ) (r : Refusal) → bytes ≡ saved g es ++ (line ++ tail) →
      EventLine e line → settings_verdict g ≡ Ok tt → AllAccepted (opened g) es → (outcome (after (opened g) es) e).verdict ≡ Err r →
      FoundAs bytes (refused LineRefused (length (saved g es)))

-- bytes are found so, and in no other way
abbrev pub AnyBytesFound : Type 0
AnyBytesFound = (bytes : List ℕ) → FoundAs bytes (resumed bytes)

abbrev pub OneComing : Type 0
OneComing = (bytes : List ℕ) (x : Rebuilt) → FoundAs bytes x → x ≡ resumed bytes

-- "any refusal leaves the tables as lent"
abbrev pub RefusalKeeps : Type 0
RefusalKeeps =
    (bytes : List ℕ) (r : Refusal) (place : ℕ) → (resumed bytes).answer ≡ bad_at r place →
    ((resumed bytes).moved ≡ false) × ((resumed bytes).day.session ≡ fixed_session)
