-- Before each turn the run has gone from its start to where it stands, and the tables keep their lengths: that is what the loop keeps.
use Prim.Native.Nat.{◌-◌, ◌^◌, ◌<◌}
use mathlib.Core.Path.{◌≡◌}
use lib.ListN.{length}
use Rattle.engine_law.specs.Calls.{LongTables}
use Rattle.stream_law.specs.Streams.{says_of}
use Rattle.stream_law.proofs.Handing.{Handing}
use Rattle.stream_feed.proofs.hand_over.Given as goal

abbrev pub invariant-loop-at : goal.invariant-loop-at
invariant-loop-at l =
    Handing (says_of l.mode) l.expected l.initial.now l.initial.buys l.initial.sells l.bytes l.initial.sink l.now l.buys l.sells l.at l.sink
    × LongTables l.buys l.sells
    × (length l.buys ≡ length l.initial.buys)
    × (length l.sells ≡ length l.initial.sells)
    × (length l.bytes < 2 ^ 64)

abbrev pub decreases-loop-at : goal.decreases-loop-at
decreases-loop-at l = length l.bytes - l.at
