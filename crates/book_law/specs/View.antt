-- Document 01, "Book and report room": "The view of a side gives back the live part of the buy table or of the sell table, whichever
-- side was named; for a session that is not sound, or a short table, its result is the empty part." It is empty if either table is short.
use Rattle.std.specs.Prelude.{ℕ, ◌*◌, cond, List, [], ltb, length, take}
use Rattle.terms.specs.declared.Side.{Side}
use Rattle.terms.specs.declared.Side.TheVariants.{Buy, Sell}
use Rattle.terms.specs.Sizes.{slots}
use Rattle.tables.specs.Lengths.{width, table_length}

-- the numbers of n orders, or nothing where a table cannot hold so many
abbrev pub live_part : ℕ → List ℕ → List ℕ
live_part n t = cond (ltb slots n) [] (take (width * n) t)

abbrev pub named : {A : Type 0} → Side → A → A → A
named Buy buys sells = buys
named Sell buys sells = sells

unfoldable pub view_of : Side → List ℕ → List ℕ → ℕ → ℕ → List ℕ
view_of side buys sells buying selling =
    cond (ltb (length buys) table_length) []
    (cond (ltb (length sells) table_length) []
    (live_part (named side buying selling) (named side buys sells)))
