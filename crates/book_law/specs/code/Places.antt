-- The place among a side's orders that a search over its table finds.
use Rattle.std.specs.Prelude.{ℕ, suc, Bool, cond, List, [], ◌∷◌}
use Rattle.terms.specs.declared.Order.{Order}

-- how many orders stand before the first that passes the test; where none passes, all of them
unfoldable pub first_where : (Order → Bool) → List Order → ℕ
first_where p [] = 0
first_where p (x ∷ xs) = cond (p x) 0 (suc (first_where p xs))
