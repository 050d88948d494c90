-- EVERY TRADE IS INSIDE. Each reported trade lies inside the band and the execution range that the settings and the earlier reports give.
use Rattle.std.specs.Prelude.{ℕ, ◌≡◌, true, List, ◌∷◌, ◌++◌}
use Rattle.terms.specs.declared.Settings.{Settings}
use Rattle.terms.specs.declared.Deal.{Deal}
use Rattle.terms.specs.declared.Event.{Event}
use Rattle.terms.specs.declared.Report.{Report}
use Rattle.terms.specs.declared.Said.TheVariants.{Trade}
use Rattle.rules_law.specs.Slabs.{in_band}
use Rattle.rules_law.specs.Reference.{in_range}
use Rattle.book_law.specs.Matching.{report_at}
use Rattle.state_law.specs.Day.{opened}
use Rattle.acts_law.specs.Heard.{band_said, range_said}
use Rattle.engine_law.specs.Outcome.{told}

-- in any run from an opening, wherever the trade stands among the reports
abbrev pub TradesWithin : Type 0
TradesWithin =
    (g : Settings) (es : List Event) (before later : List Report) (t : ℕ) (deal : Deal) →
    told (opened g) es ≡ before ++ (report_at t (Trade deal) ∷ later) →
    (in_band (band_said g before) deal.price ≡ true) × (in_range (range_said g before) deal.price ≡ true)
