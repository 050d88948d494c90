-- A run of numbers written over a part of a list: every write into lent numbers is stated by it.
use Rattle.std.specs.Prelude.{ℕ, List, ◌++◌, length, take, drop}

-- t, with vs written over its numbers from `at` on
unfoldable pub put : List ℕ → ℕ → List ℕ → List ℕ
put t at vs = take at t ++ (vs ++ drop (length vs) (drop at t))
