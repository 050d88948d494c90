-- What is left of the lines, from where the replay stands, makes up the whole: that is what the loop keeps.
use Prim.Native.Nat.{◌-◌, ◌^◌, ◌<◌}
use mathlib.Core.Path.{◌≡◌}
use lib.ListN.{length}
use Rattle.resume_law.specs.code.Replaying.{held_from}
use Rattle.resume_law.proofs.Replays.{Replaying}
use Rattle.resume_lines.proofs.until_halted.Given as goal

abbrev pub invariant-loop-at : goal.invariant-loop-at
invariant-loop-at l =
    Replaying l.bytes (held_from l.bytes l.first l.initial.now l.initial.buys l.initial.sells) l.now l.buys l.sells l.at l.moved
    × (length l.buys ≡ length l.initial.buys)
    × (length l.sells ≡ length l.initial.sells)
    × (length l.room ≡ length l.initial.room)
    × (length l.bytes < 2 ^ 64)

abbrev pub decreases-loop-at : goal.decreases-loop-at
decreases-loop-at l = length l.bytes - l.at
