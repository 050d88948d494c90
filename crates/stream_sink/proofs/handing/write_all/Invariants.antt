-- Before each turn the first bytes were handed on; a sink that is shut ends it.
use Prim.Native.Nat.{◌-◌, ◌^◌, ◌<◌}
use lib.ListN.{length}
use Rattle.stream_law.proofs.Writes.{Writing}
use Rattle.stream_sink.proofs.handing.write_all.Given as goal

abbrev pub invariant-loop-at : goal.invariant-loop-at
invariant-loop-at l = Writing l.expected l.initial.sink l.bytes l.sink l.at × (length l.bytes < 2 ^ 64)

abbrev pub decreases-loop-at : goal.decreases-loop-at
decreases-loop-at l = length l.bytes - l.at
