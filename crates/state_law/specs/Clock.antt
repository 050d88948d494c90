-- The steps of the clock: first the slab, then the reference.
use Rattle.std.specs.Prelude.{ℕ, ◌+◌, cond}
use Rattle.rules_law.specs.Slabs.{over_by}
use Rattle.rules_law.specs.Reference.{reckoned}
use Rattle.state_law.specs.declared.Dial.{Dial}
use Rattle.state_law.specs.declared.Session.{Session}

-- "At the first accepted event at or after its end, before that event acts, the percent becomes initial plus enhanced."
unfoldable pub widened_by : ℕ → ℕ → ℕ → ℕ
widened_by widened cooling t = cond (over_by cooling t) (widened + 1) widened

-- the cooling-off that is over runs no more
unfoldable pub cooling_by : ℕ → ℕ → ℕ
cooling_by cooling t = cond (over_by cooling t) 0 cooling

-- the clock at time t, with the slab that is then in force
abbrev pub dial_at : Dial → ℕ → Dial
dial_at c t =
    record {
      time = t;
      closed = c.closed;
      widened = widened_by c.widened c.cooling t;
      cooling = cooling_by c.cooling t;
      under = c.under;
    }

-- the session at time t: first the slab steps, then "every boundary up to and including its time"
unfoldable pub clock_step : Session → ℕ → Session
clock_step s t =
    record {
      settings = s.settings;
      clock = dial_at s.clock t;
      live = s.live;
      reckoning = reckoned s.reckoning s.clock.under s.settings.days s.clock.time t;
      tape = s.tape;
    }
