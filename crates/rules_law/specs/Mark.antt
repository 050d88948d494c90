-- Document 01, "Events": the mark of a market order that has traded (004, paragraph 6).
use Rattle.std.specs.Prelude.{ℕ, ◌*◌, Bool, ltb}
use Rattle.terms.specs.declared.Side.{Side}
use Rattle.terms.specs.declared.Side.TheVariants.{Buy, Sell}

-- "With m the price of its first trade, a buy stops where 100×price exceeds 102×m, a sell where it is below 98×m"
abbrev pub beyond_mark : Side → ℕ → ℕ → Bool
beyond_mark Buy m price = ltb (102 * m) (100 * price)
beyond_mark Sell m price = ltb (100 * price) (98 * m)

-- no price in range is above this, so neither is the price of a first trade
abbrev pub mark_most : ℕ
mark_most = 1000000000
