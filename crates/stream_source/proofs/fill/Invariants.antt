-- What came so far stands in the buffer, and the source has led there.
use Prim.Native.Nat.{◌≤◌, ◌<◌, ◌-◌, ◌^◌}
use mathlib.Core.Path.{◌≡◌}
use lib.ListN.{length, take}
use Rattle.stream_law.specs.Sources.{Leads}
use Rattle.stream_source.proofs.fill.Given as goal

abbrev pub invariant-loop-at : goal.invariant-loop-at
invariant-loop-at l = (l.at ≤ length l.buf) × (length l.buf ≡ length l.initial.buf) × (length l.buf < 2 ^ 64) × Leads l.given l.initial.source (take l.at l.buf) l.source

abbrev pub decreases-loop-at : goal.decreases-loop-at
decreases-loop-at l = length l.buf - l.at
