-- At each turn, putting the numeral of what is left into the room as it stands gives what putting the whole numeral gives.
use Prim.Native.Nat.{◌+◌, ◌≤◌}
use mathlib.Core.Path.{◌≡◌}
use lib.ListN.{length}
use Rattle.terms.specs.Sizes.{written_most}
use Rattle.lines_text_law.specs.Numerals.{numeral}
use Rattle.tables.specs.Put.{put}
use Rattle.lines_text.proofs.room.put_number.Given as goal

abbrev pub invariant-loop-w : goal.invariant-loop-w
invariant-loop-w l =
    (l.w ≤ written_most)
    × (l.p ≡ l.at + length (numeral l.w))
    × (l.p ≤ length l.room)
    × (length l.room ≡ length l.initial.room)
    × (put l.initial.room l.at (numeral l.v) ≡ put l.room l.at (numeral l.w))

abbrev pub decreases-loop-w : goal.decreases-loop-w
decreases-loop-w l = l.w
