-- In the table of slabs, no category's initial and enhanced percent come to more than `percent_most`.
use Prim.Native.Nat.{◌+◌, ◌≤◌}
use lib.Dec.{lit≤}
use Rattle.terms.specs.declared.Category.{Category}
use Rattle.terms.specs.declared.Category.TheVariants.{Broad, Narrow, Sensitive, Energy, Metals, Precious, Gems, Other}
use Rattle.rules_law.specs.Slabs.{slab_of, percent_most}

-- checked category by category
pub row_small : (c : Category) → (slab_of c).initial + (slab_of c).enhanced ≤ percent_most
row_small Broad = lit≤ tt
row_small Narrow = lit≤ tt
row_small Sensitive = lit≤ tt
row_small Energy = lit≤ tt
row_small Metals = lit≤ tt
row_small Precious = lit≤ tt
row_small Gems = lit≤ tt
row_small Other = lit≤ tt
