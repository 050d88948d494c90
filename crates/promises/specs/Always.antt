-- NO RUN MEETS REFUSAL 2: an opened session is sound, and every event leaves it sound. TIME NEVER GOES BACK, in the session and in the
-- reports. THE REPORTS OF AN EVENT FIT THE ROOM.
use Rattle.std.specs.Prelude.{◌≤◌, ◌≡◌, true, List, ◌∷◌, ◌++◌, length, Ok}
use Rattle.terms.specs.declared.Settings.{Settings}
use Rattle.terms.specs.declared.Event.{Event}
use Rattle.terms.specs.declared.Report.{Report}
use Rattle.tables.specs.Lengths.{reports_most}
use Rattle.terms.specs.Refusals.{code_of}
use Rattle.terms.specs.Settings.{settings_verdict}
use Rattle.state_law.specs.Day.{Day, opened}
use Rattle.soundness_law.specs.Sound.{sound}
use Rattle.engine_law.specs.Outcome.{outcome, after, told}

abbrev pub AlwaysSound : Type 0
AlwaysSound = (g : Settings) (es : List Event) → settings_verdict g ≡ Ok tt → sound (after (opened g) es) ≡ true

-- after any events, no event is refused with 2
abbrev pub NeverTwo : Type 0
NeverTwo = (g : Settings) (es : List Event) (e : Event) → settings_verdict g ≡ Ok tt → code_of (outcome (after (opened g) es) e).verdict ≡ 2 → ⊥

-- after more events the session's time is no earlier
abbrev pub TimeForward : Type 0
TimeForward = (g : Settings) (es more : List Event) → (after (opened g) es).session.clock.time ≤ (after (opened g) (es ++ more)).session.clock.time

-- of two reports that follow each other, the second is no earlier
abbrev pub ReportsForward : Type 0
ReportsForward =
    (g : Settings) (es : List Event) (before later : List Report) (r r' : Report) → told (opened g) es ≡ before ++ (r ∷ (r' ∷ later)) → r.time ≤ r'.time

abbrev pub ReportsFit : Type 0
ReportsFit = (d : Day) (e : Event) → length (outcome d e).reports ≤ reports_most
