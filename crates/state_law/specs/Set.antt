-- A session with one group or one number changed.
use Rattle.std.specs.Prelude.{ℕ, Bool}
use Rattle.state_law.specs.declared.Session.{Session}
use Rattle.state_law.specs.declared.Dial.{Dial}
use Rattle.state_law.specs.declared.Live.{Live}

-- ---- a group

abbrev pub set_clock : Session → Dial → Session
set_clock s v = record { settings = s.settings; clock = v; live = s.live; reckoning = s.reckoning; tape = s.tape }

abbrev pub set_live : Session → Live → Session
set_live s v = record { settings = s.settings; clock = s.clock; live = v; reckoning = s.reckoning; tape = s.tape }

-- ---- a number of the clock

abbrev pub time_set : Dial → ℕ → Dial
time_set c v = record { time = v; closed = c.closed; widened = c.widened; cooling = c.cooling; under = c.under }

abbrev pub closed_set : Dial → Bool → Dial
closed_set c v = record { time = c.time; closed = v; widened = c.widened; cooling = c.cooling; under = c.under }

abbrev pub cooling_set : Dial → ℕ → Dial
cooling_set c v = record { time = c.time; closed = c.closed; widened = c.widened; cooling = v; under = c.under }

abbrev pub under_set : Dial → ℕ → Dial
under_set c v = record { time = c.time; closed = c.closed; widened = c.widened; cooling = c.cooling; under = v }

-- ---- a number of the session

abbrev pub set_time : Session → ℕ → Session
set_time s v = set_clock s (time_set s.clock v)

abbrev pub set_closed : Session → Bool → Session
set_closed s v = set_clock s (closed_set s.clock v)

abbrev pub set_under : Session → ℕ → Session
set_under s v = set_clock s (under_set s.clock v)

abbrev pub set_buys : Session → ℕ → Session
set_buys s v = set_live s (record { buys = v; sells = s.live.sells; given = s.live.given })

abbrev pub set_sells : Session → ℕ → Session
set_sells s v = set_live s (record { buys = s.live.buys; sells = v; given = s.live.given })

abbrev pub set_given : Session → ℕ → Session
set_given s v = set_live s (record { buys = s.live.buys; sells = s.live.sells; given = v })
