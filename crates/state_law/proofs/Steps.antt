-- Clock steps: two of them in a row are one, and none narrows the band.
use Prim.Native.Nat.{ℕ, ◌+◌, ◌≤◌}
use native.Mathlib.Omega.{arith}
use mathlib.Core.Path.{◌≡◌}
use mathlib.Core.Bool.{true, not}
use borrow.Author.Tests.{leb-true, le-leb, ne_eqb}
use lib.Dec.{leb, eqb}
use Rattle.terms.proofs.Logic.{split, join, cases, by}
use Rattle.rules_law.specs.declared.Row.{Row}
use Rattle.rules_law.specs.declared.Reckoning.{Reckoning}
use Rattle.rules_law.specs.Slabs.{slab_of, percent_of, over_by, in_band}
use Rattle.rules_law.proofs.Minutes.{reckoned_twice}
use Rattle.rules_law.proofs.Bands.{band_grows}
use Rattle.state_law.specs.declared.Session.{Session}
use Rattle.state_law.specs.Now.{percent_now, band_now}
use Rattle.state_law.specs.Clock.{widened_by, cooling_by, clock_step}

over_stays : (c t u : ℕ) → t ≤ u → over_by c t ≡ true → over_by c u ≡ true
over_stays c t u h e =
    let p = split (not (eqb c 0)) (leb c t) e in
    join (not (eqb c 0)) (leb c u) p.0 (le-leb c u (omega (arith, leb-true c t p.1)))

widened_twice : (w c t u : ℕ) → t ≤ u → widened_by (widened_by w c t) (cooling_by c t) u ≡ widened_by w c u
unfolding widened_by cooling_by
widened_twice w c t u h =
    cases (over_by c t)
    (λ e. rw (e, over_stays c t u h e))
    (λ e. rw e)

cooling_twice : (c t u : ℕ) → t ≤ u → cooling_by (cooling_by c t) u ≡ cooling_by c u
unfolding cooling_by
cooling_twice c t u h =
    cases (over_by c t)
    (λ e. rw (e, over_stays c t u h e))
    (λ e. rw e)

-- a session with the four things that a clock step sets
abbrev ticked : Session → ℕ → ℕ → ℕ → Reckoning → Session
ticked s t widened cooling reckoning =
    record {
      settings = s.settings;
      clock = record { time = t; closed = s.clock.closed; widened = widened; cooling = cooling; under = s.clock.under };
      live = s.live;
      reckoning = reckoning;
      tape = s.tape;
    }

-- TWO STEPS OF TIME ARE ONE: to go to t and then to u is to go to u
pub clock_twice : (s : Session) (t u : ℕ) → s.clock.time ≤ t → t ≤ u → clock_step (clock_step s t) u ≡ clock_step s u
unfolding clock_step
clock_twice s t u h k =
    λ i. ticked s u
    (widened_twice s.clock.widened s.clock.cooling t u k i)
    (cooling_twice s.clock.cooling t u k i)
    (reckoned_twice s.reckoning s.clock.under s.settings.days s.clock.time t u h k i)

-- ---- the band never narrows

percent_more : (slab : Row) (w : ℕ) → percent_of slab w ≤ percent_of slab (w + 1)
unfolding percent_of
percent_more slab w =
    rw (ne_eqb (w + 1) 0 (λ e. omega arith))
    (by (λ (x : ℕ). x ≤ slab.initial + slab.enhanced) (eqb w 0) slab.initial (slab.initial + slab.enhanced)
    (λ e. omega arith)
    (λ e. omega arith))

pub percent_grows : (slab : Row) (w c t : ℕ) → percent_of slab w ≤ percent_of slab (widened_by w c t)
unfolding widened_by
percent_grows slab w c t =
    by (λ (x : ℕ). percent_of slab w ≤ percent_of slab x) (over_by c t) (w + 1) w
    (λ e. percent_more slab w)
    (λ e. omega arith)

-- a price in the band stays in it over the clock steps
pub band_stays : (s : Session) (t x : ℕ) → in_band (band_now s) x ≡ true → in_band (band_now (clock_step s t)) x ≡ true
unfolding clock_step
band_stays s t x e =
    band_grows s.settings.base s.settings.tick (percent_now s) (percent_of (slab_of s.settings.category) (widened_by s.clock.widened s.clock.cooling t)) x
    (percent_grows (slab_of s.settings.category) s.clock.widened s.clock.cooling t) e
