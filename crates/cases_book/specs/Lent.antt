-- What the steps of the program need to know of the lent numbers.
use Rattle.std.specs.Prelude.{ℕ, ◌≤◌, List, length}
use Rattle.terms.specs.Sizes.{slots}
use Rattle.tables.specs.Lengths.{table_length}
use Rattle.cases_book.specs.declared.steps.Counts.{Counts}

pub record Counted (c : Counts) : Type 0 where
  pub own : c.own ≤ slots
  pub other : c.other ≤ slots

-- both tables are long enough
pub record SidesLent (own other : List ℕ) : Type 0 where
  pub own_long : table_length ≤ length own
  pub other_long : table_length ≤ length other
