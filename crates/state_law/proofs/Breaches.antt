-- 001, paragraphs 6.3 and 7.2: "Once the initial slab limit is breached in any contract, then, after a cooling-off period of 15 minutes, this
-- limit shall be increased further by enhanced slab". What follows where a session trades at an end of its band and the clock then steps on.
use Prim.Native.Nat.{ℕ, ◌+◌, ◌*◌, ◌≤◌, ◌<◌}
use native.Mathlib.Omega.{arith}
use mathlib.Core.Path.{◌≡◌}
use mathlib.Core.Bool.{true, false}
use borrow.Author.Tests.{eq-eqb}
use Rattle.terms.proofs.Logic.{join}
use Rattle.rules_law.specs.Slabs.{slab_of, percent_of, touches, over_by}
use Rattle.rules_law.proofs.Coolings.{starts, over_from, over-before}
use Rattle.state_law.specs.declared.Session.{Session}
use Rattle.state_law.specs.Now.{percent_now, band_now}
use Rattle.state_law.specs.Clock.{widened_by, cooling_by, clock_step}
use Rattle.state_law.specs.Trades.{with_trade}

abbrev fifteen_minutes : ℕ
fifteen_minutes = 15 * 60 * 1000

-- ---- the clock steps of a session in the initial slab

module _ (s : Session) (t : ℕ) (initial : s.clock.widened ≡ 0) where
  -- once a cooling-off is over, "the percent becomes initial plus enhanced", and no cooling-off runs any more
  pub over_widens : over_by s.clock.cooling t ≡ true →
      (percent_now (clock_step s t) ≡ (slab_of s.settings.category).initial + (slab_of s.settings.category).enhanced) × ((clock_step s t).clock.cooling ≡ 0)
  unfolding clock_step widened_by cooling_by percent_of
  over_widens e = (rw (e, initial), rw e)

  -- otherwise the percent stays the initial one
  pub not-over_stays : over_by s.clock.cooling t ≡ false → percent_now (clock_step s t) ≡ (slab_of s.settings.category).initial
  unfolding clock_step widened_by percent_of
  not-over_stays e = rw (e, initial)

-- ---- a breach: a trade of any lots at either end of the band, in the initial slab with no cooling-off running

module _ (s : Session) (price lots : ℕ) (initial : s.clock.widened ≡ 0) (none : s.clock.cooling ≡ 0) (breach : touches (band_now s) price ≡ true) where
  -- it starts a cooling-off of fifteen minutes,
  pub breach_cools : (with_trade s price lots).clock.cooling ≡ s.clock.time + fifteen_minutes
  unfolding with_trade
  breach_cools =
      starts s.clock.widened s.clock.cooling s.clock.time (band_now s) price
      (join _ _ (eq-eqb s.clock.widened 0 initial) (join _ _ (eq-eqb s.clock.cooling 0 none) breach))

  -- the band is widened at its end, or at the first event after it,
  pub breach_widens : (t : ℕ) → s.clock.time + fifteen_minutes ≤ t →
      percent_now (clock_step (with_trade s price lots) t) ≡ (slab_of s.settings.category).initial + (slab_of s.settings.category).enhanced
  unfolding with_trade
  breach_widens t h =
      (over_widens (with_trade s price lots) t initial
      (over_from (with_trade s price lots).clock.cooling t (omega (arith, breach_cools)) (omega (arith, breach_cools)))).0

  -- and no sooner
  pub breach_waits : (t : ℕ) → t < s.clock.time + fifteen_minutes →
      percent_now (clock_step (with_trade s price lots) t) ≡ (slab_of s.settings.category).initial
  unfolding with_trade
  breach_waits t h = not-over_stays (with_trade s price lots) t initial (over-before (with_trade s price lots).clock.cooling t (omega (arith, breach_cools)))
