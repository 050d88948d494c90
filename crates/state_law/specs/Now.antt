-- What is in force in a session: the percent, the base, the band, the range.
use Rattle.std.specs.Prelude.{ℕ, ◌+◌, ◌≤◌}
use Rattle.terms.specs.declared.Band.{Band}
use Rattle.terms.specs.Settings.{Valid}
use Rattle.terms.specs.Sizes.{time_most, price_most, numbers_most, trades_most, slots}
use Rattle.rules_law.specs.declared.Range.{Range}
use Rattle.rules_law.specs.Slabs.{slab_of, percent_of, band_at, cooling_length}
use Rattle.rules_law.specs.Reference.{range_of, reference_most, MinuteFits}
use Rattle.rules_law.specs.Close.{TapeFits}
use Rattle.state_law.specs.declared.Session.{Session}

-- "It starts at the initial percent. .. the percent becomes initial plus enhanced."
abbrev pub percent_now : Session → ℕ
percent_now s = percent_of (slab_of s.settings.category) s.clock.widened

abbrev pub base_now : Session → ℕ
base_now s = s.settings.base

-- the band at the percent in force
abbrev pub band_now : Session → Band
band_now s = band_at (base_now s) s.settings.tick (percent_now s)

-- the range around the reference, by the initial percent
abbrev pub range_now : Session → Range
range_now s = range_of (slab_of s.settings.category) s.reckoning.reference

-- the bounds that the code relies on, so that no sum or product of a session's numbers overflows
pub record Clocked (s : Session) : Type 0 where
  pub valid : Valid s.settings
  pub time_small : s.clock.time ≤ time_most
  pub buys_few : s.live.buys ≤ slots
  pub sells_few : s.live.sells ≤ slots
  pub widened_once : s.clock.widened ≤ 1
  pub cooling_near : s.clock.cooling ≤ s.clock.time + cooling_length
  pub reference_some : 1 ≤ s.reckoning.reference
  pub reference_small : s.reckoning.reference ≤ reference_most
  pub under_small : s.clock.under ≤ price_most
  pub given_small : s.live.given ≤ numbers_most
  pub trades_small : s.tape.trades ≤ trades_most

-- the same, with the bounds of what the session remembers of trades
pub record Steady (s : Session) : Type 0 where
  pub clocked : Clocked s
  pub minute_fits : MinuteFits s.reckoning.minute
  pub tape_fits : TapeFits s.tape
