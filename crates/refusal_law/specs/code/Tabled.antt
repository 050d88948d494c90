-- What the code knows of a session and its lent tables before it reads them.
use Rattle.std.specs.Prelude.{ℕ, ◌≤◌, Bool, List, length}
use Rattle.terms.specs.declared.Side.{Side}
use Rattle.terms.specs.declared.Side.TheVariants.{Buy, Sell}
use Rattle.terms.specs.declared.Entry.{Entry}
use Rattle.terms.specs.Sizes.{slots, sizes}
use Rattle.tables.specs.Lengths.{table_length}
use Rattle.state_law.specs.declared.Session.{Session}
use Rattle.refusal_law.specs.Refusals.{life_has_place}

-- the tables are long enough, and the live counts are no more than the slots of a table
pub record Tabled (s : Session) (buys sells : List ℕ) : Type 0 where
  pub buys_few : s.live.buys ≤ slots
  pub sells_few : s.live.sells ≤ slots
  pub buys_long : table_length ≤ length buys
  pub sells_long : table_length ≤ length sells

-- the live count of a side
abbrev pub live_on : Side → Session → ℕ
live_on Buy s = s.live.buys
live_on Sell s = s.live.sells

-- row 10 of an order, judged by the live counts
abbrev pub place_on : Session → Entry → Bool
place_on s n = life_has_place sizes n.life (live_on n.side s)
