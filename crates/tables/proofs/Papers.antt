-- The lengths of lent numbers are the paper's: a side's table has 256 orders of three numbers, and the room 520 reports of six.
use Prim.Native.Nat.{◌*◌}
use mathlib.Core.Path.{◌≡◌, refl}
use mathlib.Core.List.{[], ◌∷◌}
use Rattle.tables.specs.Lengths.{width, table_length, reports_most, record_length, room_length}

pub lengths : width ∷ table_length ∷ reports_most ∷ record_length ∷ room_length ∷ [] ≡ 3 ∷ 256 * 3 ∷ 520 ∷ 6 ∷ 520 * 6 ∷ []
lengths = refl
