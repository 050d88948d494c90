-- Document 01, "Slabs": the categories, in the order in which it lists them.
use Rattle.std.specs.Prelude.{ℕ}
use Rattle.terms.specs.declared.Category.{Category}
use Rattle.terms.specs.declared.Category.TheVariants.{Broad, Narrow, Sensitive, Energy, Metals, Precious, Gems, Other}

-- the row of a category, counted from 0
abbrev pub row_of : Category → ℕ
row_of Broad = 0
row_of Narrow = 1
row_of Sensitive = 2
row_of Energy = 3
row_of Metals = 4
row_of Precious = 5
row_of Gems = 6
row_of Other = 7
