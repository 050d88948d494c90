-- A SESSION as 44 numbers: the layout; the eight of its settings; the clock's time, closed (0 or 1), widened, cooling and under; live buys,
-- live sells and given; the reference, the minute's count and sum; trades, the ten prices, the ten sizes, the half hour's count, lots and
-- value. Each group of the session is a section, which is written and read from its own place on.
use Rattle.std.specs.Prelude.{ℕ, ◌+◌, Bool, cond, List, [], ◌∷◌, ◌++◌, leb, eqb, get_or}
use Rattle.std.specs.Int.{from_bool}
use Rattle.terms.specs.Truth.{◌⊓◌}
use Rattle.rules_law.specs.declared.Reckoning.{Reckoning}
use Rattle.rules_law.specs.declared.Tape.{Tape}
use Rattle.state_law.specs.declared.Dial.{Dial}
use Rattle.state_law.specs.declared.Live.{Live}
use Rattle.state_law.specs.declared.Session.{Session}
use Rattle.state_law.specs.Opening.{fixed_session}
use Rattle.desk_packing_law.specs.Runs.{layout, settings_base, clock_base, live_base, reckoning_base, tape_base, ten_at}
use Rattle.desk_packing_law.specs.Settings.{settings_numbers, settings_at, is_category}

-- 1 for true, 0 for false
abbrev pub flag : Bool → ℕ
flag b = from_bool b

-- ---- the sections as numbers

abbrev pub clock_numbers : Dial → List ℕ
clock_numbers c = c.time ∷ flag c.closed ∷ c.widened ∷ c.cooling ∷ c.under ∷ []

abbrev pub live_numbers : Live → List ℕ
live_numbers l = l.buys ∷ l.sells ∷ l.given ∷ []

abbrev pub reckoning_numbers : Reckoning → List ℕ
reckoning_numbers r = r.reference ∷ r.minute.count ∷ r.minute.sum ∷ []

abbrev pub tape_numbers : Tape → List ℕ
tape_numbers t = t.trades ∷ (ten_at t.prices 0 ++ (ten_at t.sizes 0 ++ (t.half.count ∷ t.half.lots ∷ t.half.value ∷ [])))

unfoldable pub session_numbers : Session → List ℕ
session_numbers s =
    layout
    ∷ (settings_numbers s.settings
    ++ (clock_numbers s.clock
    ++ (live_numbers s.live
    ++ (reckoning_numbers s.reckoning
    ++ tape_numbers s.tape))))

-- ---- the sections read from a place on

abbrev pub clock_from : List ℕ → ℕ → Dial
clock_from ns at =
    record {
      time = get_or ns at 0;
      closed = eqb (get_or ns (at + 1) 0) 1;
      widened = get_or ns (at + 2) 0;
      cooling = get_or ns (at + 3) 0;
      under = get_or ns (at + 4) 0;
    }

abbrev pub live_from : List ℕ → ℕ → Live
live_from ns at = record { buys = get_or ns at 0; sells = get_or ns (at + 1) 0; given = get_or ns (at + 2) 0 }

abbrev pub reckoning_from : List ℕ → ℕ → Reckoning
reckoning_from ns at =
    record { reference = get_or ns at 0; minute = record { count = get_or ns (at + 1) 0; sum = get_or ns (at + 2) 0 } }

abbrev pub tape_from : List ℕ → ℕ → Tape
tape_from ns at =
    record {
      trades = get_or ns at 0;
      prices = ten_at ns (at + 1);
      sizes = ten_at ns (at + 11);
      half = record { count = get_or ns (at + 21) 0; lots = get_or ns (at + 22) 0; value = get_or ns (at + 23) 0 };
    }

-- whether numbers are a session's: they begin with this layout, the category is one, and closed is 0 or 1
unfoldable pub is_session : List ℕ → Bool
is_session ns = eqb (get_or ns 0 0) layout ⊓ is_category (get_or ns settings_base 0) ⊓ leb (get_or ns (clock_base + 1) 0) 1

-- the session that such numbers stand for
unfoldable pub session_of : List ℕ → Session
session_of ns =
    record {
      settings = settings_at ns settings_base;
      clock = clock_from ns clock_base;
      live = live_from ns live_base;
      reckoning = reckoning_from ns reckoning_base;
      tape = tape_from ns tape_base;
    }

-- any other numbers are read as the paper's fixed session, which is not sound
unfoldable pub session_from : List ℕ → Session
session_from ns = cond (is_session ns) (session_of ns) fixed_session
