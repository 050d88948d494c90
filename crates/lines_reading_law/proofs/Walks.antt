-- A walk over saved bytes reads all of them at the start, and behind a line what follows it.
use Prim.Native.Nat.{ℕ}
use mathlib.Core.Path.{◌≡◌, refl, ap}
use mathlib.Core.List.{List, ◌++◌}
use lib.ListN.{length}
use lib.Seq.{drop-append_seam}
use Rattle.lines_reading_law.specs.Answers.{read_event}
use Rattle.lines_reading_law.specs.Walk.{read_at}

pub walk_starts : (bytes : List ℕ) → read_at bytes 0 ≡ read_event bytes
unfolding read_at
walk_starts bytes = refl

pub walk_goes-on : (line rest : List ℕ) → read_at (line ++ rest) (length line) ≡ read_event rest
unfolding read_at
walk_goes-on line rest = ap read_event (drop-append_seam line rest)
