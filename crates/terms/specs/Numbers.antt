-- Document 01, "Numbers": the range of each kind of number.
use Rattle.std.specs.Prelude.{ℕ, ◌%◌, ◌≤◌, Bool, List, [], ◌∷◌, leb, eqb}
use Rattle.terms.specs.Truth.{between}
use Rattle.terms.specs.Sizes.{price_most, lots_most, time_most, numbers_most, written_most}

-- "Prices are whole paise, 1 to 100,000,000"
abbrev pub is_price : ℕ → Bool
is_price x = between 1 x price_most

-- "Quantities are lots, 1 to 10,000"
abbrev pub is_lots : ℕ → Bool
is_lots x = between 1 x lots_most

-- "Times are milliseconds from the open, 0 to 86,400,000"
abbrev pub is_time : ℕ → Bool
is_time x = leb x time_most

-- "Order numbers are 1 to 60,000"
abbrev pub is_number : ℕ → Bool
is_number x = between 1 x numbers_most

-- x is a multiple of the tick
abbrev pub on_tick : ℕ → ℕ → Bool
on_tick tick x = eqb (x % tick) 0

-- the numbers that a line can hold: none of them is "above 999,999,999"
abbrev pub Writable : List ℕ → Type 0
Writable [] = Unit {0}
Writable (n ∷ ns) = (n ≤ written_most) × Writable ns
