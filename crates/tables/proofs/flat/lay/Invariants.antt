-- After j turns the first j numbers are written.
use mathlib.Core.Path.{◌≡◌}
use lib.ListN.{length, take}
use Rattle.tables.specs.Put.{put}
use Rattle.tables.proofs.flat.lay.Given as goal

abbrev pub invariant-loop-j : goal.invariant-loop-j
invariant-loop-j l = (length l.run ≡ length l.initial.run) × (l.run ≡ put l.initial.run 0 (take l.j l.ns))
