-- A day: a session together with the live orders of each side, best first. All that an event does is defined on days.
use Rattle.std.specs.Prelude.{ℕ, List, [], length}
use Rattle.terms.specs.declared.Settings.{Settings}
use Rattle.terms.specs.declared.Order.{Order}
use Rattle.terms.specs.declared.Side.{Side}
use Rattle.terms.specs.declared.Side.TheVariants.{Buy, Sell}
use Rattle.state_law.specs.declared.Session.{Session}
use Rattle.state_law.specs.Set.{set_buys, set_sells}
use Rattle.state_law.specs.Opening.{opened_session}
use Rattle.state_law.specs.Clock.{clock_step}

pub record Day : Type 0 where
  pub session : Session
  pub buys : List Order
  pub sells : List Order

-- a day whose live counts are set to the numbers of its orders
abbrev pub day_of : Session → List Order → List Order → Day
day_of s buys sells = record { session = set_sells (set_buys s (length buys)) (length sells); buys = buys; sells = sells }

-- the orders of a side, and those of the other
abbrev pub own : Side → Day → List Order
own Buy d = d.buys
own Sell d = d.sells

abbrev pub across : Side → Day → List Order
across Buy d = d.sells
across Sell d = d.buys

-- a day given by a side's own orders and those across
abbrev pub day_with : Side → Session → List Order → List Order → Day
day_with Buy s mine theirs = day_of s mine theirs
day_with Sell s mine theirs = day_of s theirs mine

-- the same orders with another session
abbrev pub day_by : Session → Day → Day
day_by s d = record { session = s; buys = d.buys; sells = d.sells }

-- the day after the clock steps up to a time
abbrev pub stepped_day : Day → ℕ → Day
stepped_day d t = day_by (clock_step d.session t) d

-- a day that has just begun
abbrev pub opened : Settings → Day
opened g = record { session = opened_session g; buys = []; sells = [] }
