-- THE BAND NEVER NARROWS. It widens only after a reported trade at an end of the initial band, at least 900,000 ms earlier; it widens to the
-- percent "initial plus enhanced", and once.
use Rattle.std.specs.Prelude.{ℕ, ◌≤◌, ◌≡◌, true, List, ◌∷◌, ◌++◌}
use Rattle.terms.specs.declared.Settings.{Settings}
use Rattle.terms.specs.declared.Band.{Band}
use Rattle.terms.specs.declared.Event.{Event}
use Rattle.terms.specs.declared.Report.{Report}
use Rattle.terms.specs.declared.Said.TheVariants.{Slab}
use Rattle.rules_law.specs.Slabs.{in_band}
use Rattle.book_law.specs.Matching.{report_at}
use Rattle.state_law.specs.Day.{opened}
use Rattle.acts_law.specs.Heard.{initial_band, enhanced_band, band_said, touched_by, slabs_told}
use Rattle.engine_law.specs.Outcome.{told}

-- in a run from an opening, a slab report at time t stands between the reports `before` and `later`
abbrev pub Widened : Settings → List Event → List Report → ℕ → Band → List Report → Type 0
Widened g es before t band later = told (opened g) es ≡ before ++ (report_at t (Slab band) ∷ later)

-- a price in the band before the report is in the band that it reports
abbrev pub NeverNarrows : Type 0
NeverNarrows =
    (g : Settings) (es : List Event) (before later : List Report) (t : ℕ) (band : Band) → Widened g es before t band later →
    (x : ℕ) → in_band (band_said g before) x ≡ true → in_band band x ≡ true

-- before it stands a trade at an end of the initial band, at least 900,000 ms earlier
abbrev pub WidensAfterTouch : Type 0
WidensAfterTouch =
    (g : Settings) (es : List Event) (before later : List Report) (t : ℕ) (band : Band) → Widened g es before t band later →
    touched_by (initial_band g) t before ≡ true

-- the band was the initial one before it, and becomes the enhanced one
abbrev pub WidensToEnhanced : Type 0
WidensToEnhanced =
    (g : Settings) (es : List Event) (before later : List Report) (t : ℕ) (band : Band) → Widened g es before t band later →
    (band_said g before ≡ initial_band g) × (band ≡ enhanced_band g)

-- "In the base it widens once": a run has at most one slab report, even where a coarse tick gives both bands the same ends
abbrev pub WidensOnce : Type 0
WidensOnce = (g : Settings) (es : List Event) → slabs_told (told (opened g) es) ≤ 1
