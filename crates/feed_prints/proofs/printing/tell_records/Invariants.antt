-- Before each turn the lines of the first i records are printed.
use mathlib.Core.Path.{◌≡◌}
use lib.ListN.{length}
use Rattle.feed_law.proofs.Prints.{Telling}
use Rattle.feed_prints.proofs.printing.tell_records.Given as goal

abbrev pub invariant-loop-i : goal.invariant-loop-i
invariant-loop-i l = (length l.out ≡ length l.initial.out) × Telling l.room l.initial.out l.i l.wrote l.out
