-- At each turn, going on from here leaves what the whole sweep leaves: that is what the loop keeps.
use Prim.Native.Nat.{◌+◌, ◌*◌, ◌≤◌}
use mathlib.Core.Path.{◌≡◌}
use lib.ListN.{length, drop}
use Rattle.tables.specs.Lengths.{record_length}
use Rattle.rules_law.specs.Mark.{mark_most}
use Rattle.tables.specs.Live.{orders_in}
use Rattle.matching_law.specs.code.Sweeps.{finish}
use Rattle.matching.proofs.crossing.pass.Given as goal

abbrev pub invariant-loop-i : goal.invariant-loop-i
invariant-loop-i l =
    (length l.room ≡ length l.initial.room)
    × (l.at + record_length * l.orders.count ≤ length l.room)
    × (l.first ≤ mark_most)
    × (finish l.x l.at 0 0 l.x.last l.x.lots (orders_in l.orders) l.initial.room ≡ finish l.x l.at l.i l.first l.last l.left (drop l.i (orders_in l.orders)) l.room)
