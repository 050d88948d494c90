-- Whether two runs of numbers are the same.
use Rattle.std.specs.Prelude.{ℕ, Bool, List, eqb}
use Rattle.std.specs.Cmp.Lexicographic.{pointwise}

-- they are as long, and number for number the same: what `==` answers at arrays of numbers
abbrev pub are_same : List ℕ → List ℕ → Bool
are_same ns ms = pointwise eqb ns ms
