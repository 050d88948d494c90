-- Before each turn, what was taken and printed and what the bytes left come to make up the whole: that is what the loop keeps.
use Prim.Native.Nat.{◌-◌, ◌^◌, ◌<◌}
use mathlib.Core.Path.{◌≡◌}
use lib.ListN.{length}
use Rattle.feed_law.proofs.Going.{Going}
use Rattle.feed_law.specs.Turns.{fed_in}
use Rattle.feed_law.specs.Worlds.{lent_of, calls}
use Rattle.feed.proofs.lines.while_room.Given as goal

abbrev pub invariant-loop-at : goal.invariant-loop-at
invariant-loop-at l =
    Going l.bytes l.initial.out (fed_in calls (length l.bytes) (length l.initial.out) l.initial.now.stage (lent_of l.initial.now.session l.initial.buys l.initial.sells l.initial.room) l.bytes) l.now l.buys l.sells l.room l.out l.at l.wrote
    × (length l.buys ≡ length l.initial.buys)
    × (length l.sells ≡ length l.initial.sells)
    × (length l.room ≡ length l.initial.room)
    × (length l.bytes < 2 ^ 64)
    × (length l.out < 2 ^ 64)

abbrev pub decreases-loop-at : goal.decreases-loop-at
decreases-loop-at l = length l.bytes - l.at
