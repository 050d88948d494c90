-- A CLOCK LINE CHANGES NO TRADE. Slab and ref reports may come at a clock event instead of a later one; every refusal and other report stays.
use Rattle.std.specs.Prelude.{ℕ, ◌≤◌, ◌≡◌, List, [], ◌∷◌, ◌++◌, Ok}
use Rattle.std.specs.Option.{option_map_or}
use Rattle.terms.specs.declared.Settings.{Settings}
use Rattle.terms.specs.declared.Event.{Event}
use Rattle.terms.specs.declared.Act.TheVariants.{Clock}
use Rattle.terms.specs.declared.Report.{Report}
use Rattle.terms.specs.declared.Said.{Said}
use Rattle.terms.specs.Refusals.{Verdict}
use Rattle.book_law.specs.Tells.{tells}
use Rattle.state_law.specs.Day.{Day, opened}
use Rattle.engine_law.specs.Outcome.{outcome, after}

abbrev pub clock_at : ℕ → Event
clock_at t = record { time = t; act = Clock }

-- a report, if it is neither slab nor ref
abbrev pub plain_one : Report → Said → List Report
plain_one r x = option_map_or (λ band. []) (tells x).band (option_map_or (λ price. []) (tells x).reference (r ∷ []))

-- the reports of acceptances, trades, conversions, cancels and closing prices
unfoldable pub plain : List Report → List Report
plain [] = []
plain (r ∷ rs) = plain_one r r.said ++ plain rs

-- what an event is answered, without slab and ref reports
pub record Reply : Type 0 where
  pub verdict : Verdict
  pub reports : List Report

unfoldable pub replies : Day → List Event → List Reply
replies d [] = []
replies d (e ∷ es) = record { verdict = (outcome d e).verdict; reports = plain (outcome d e).reports } ∷ replies (outcome d e).day es

-- none of the events is before time t
abbrev pub From : ℕ → List Event → Type 0
From t [] = Unit {0}
From t (e ∷ es) = (t ≤ e.time) × From t es

-- after any events, an accepted clock event that is not later than those that follow changes no reply to them
abbrev pub ClockLine : Type 0
ClockLine =
    (g : Settings) (before later : List Event) (t : ℕ) → (outcome (after (opened g) before) (clock_at t)).verdict ≡ Ok tt → From t later →
    replies (outcome (after (opened g) before) (clock_at t)).day later ≡ replies (after (opened g) before) later
