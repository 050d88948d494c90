-- What the checks say of lent numbers after a call.
use Rattle.std.specs.Prelude.{ℕ, ◌-◌, ◌<◌, ◌≡◌, Bool, true, false, List, length, get_or, take, drop}
use Rattle.tables.specs.Lengths.{table_length}

-- the number that fills what is lent
abbrev pub mark : ℕ
mark = 7777777777

-- every number is x
abbrev pub AllAre : ℕ → List ℕ → Type 0
AllAre x t = (k : ℕ) → k < length t → get_or t k 0 ≡ x

-- scratch: zero in its first n numbers, as lent past them
pub record Scrubbed (n : ℕ) (t : List ℕ) : Type 0 where
  pub zero : AllAre 0 (take n t)
  pub past : AllAre mark (drop n t)

-- a table: without an event as lent; else zero behind its live numbers, and as lent past its length
pub record Left (live : ℕ) (moved : Bool) (t : List ℕ) : Type 0 where
  pub as_lent : moved ≡ false → AllAre mark t
  pub behind : moved ≡ true → AllAre 0 (take (table_length - live) (drop live t))
  pub past : AllAre mark (drop table_length t)
