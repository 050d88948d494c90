-- At each turn the rest of the pass, from the present key and map on, comes to what the whole pass does; so do the marks.
use mathlib.Core.Path.{◌≡◌}
use lib.ListN.{length, drop}
use Rattle.tables.specs.Live.{orders_in}
use Rattle.book_sound_law.specs.code.Marks.{marked}
use Rattle.book_sound_law.specs.code.Pass.{low_bits, pass_of}
use Rattle.book_sound.proofs.pass.side_by.Given as goal

abbrev pub invariant-loop-i : goal.invariant-loop-i
invariant-loop-i l =
    (length l.map ≡ length l.initial.map)
    × (pass_of l.side l.l l.mask 0 l.initial.map (orders_in l.orders) ≡ pass_of l.side l.l l.mask l.last l.map (drop l.i (orders_in l.orders)))
    × (marked l.initial.map (low_bits l.mask (orders_in l.orders)) ≡ marked l.map (low_bits l.mask (drop l.i (orders_in l.orders))))
