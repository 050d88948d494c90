-- WHAT A SESSION SHOWS IS WHAT ITS REPORTS SAID: band, range and reference in force are those that the settings and the reports give.
use Rattle.std.specs.Prelude.{◌≤◌, ◌≡◌, List, length}
use Rattle.terms.specs.declared.Settings.{Settings}
use Rattle.terms.specs.declared.Event.{Event}
use Rattle.terms.specs.declared.Report.{Report}
use Rattle.tables.specs.Lengths.{table_length}
use Rattle.terms.specs.Refusals.{code_of}
use Rattle.rules_law.specs.Reference.{range_ends}
use Rattle.state_law.specs.Day.{opened}
use Rattle.acts_law.specs.Heard.{band_said, reference_said, range_said}
use Rattle.engine_law.specs.declared.Standing.{Standing}
use Rattle.engine_law.specs.declared.Stood.{Stood}
use Rattle.engine_law.specs.Outcome.{after, told}
use Rattle.engine_law.specs.Standings.{standing_now, standing_call}
use Rattle.promises.specs.Runs.{ForOpenRuns}

pub record AsSaid (g : Settings) (rs : List Report) (st : Standing) : Type 0 where
  pub band : st.band ≡ band_said g rs
  pub range : st.range ≡ range_ends (range_said g rs)
  pub reference : st.reference ≡ reference_said g rs

-- after any events from an opening
abbrev pub StandsSaid : Type 0
StandsSaid = (g : Settings) (es : List Event) → AsSaid g (told (opened g) es) (standing_now (after (opened g) es).session)

-- after any run of calls whose opening answered 0, `engine::standings::standing`, if the tables are long enough, answers 0 and shows it
abbrev pub CallsStand : Type 0
CallsStand =
    ForOpenRuns (λ g es rs h. (r : Stood) → table_length ≤ length h.buys → table_length ≤ length h.sells →
    r ≡ standing_call h.session h.buys h.sells → (code_of r.verdict ≡ 0) × AsSaid g rs r.standing)
