-- Before each turn the cancels of the first i orders stand in the room, and `next` is the place behind them.
use mathlib.Core.Path.{◌≡◌}
use lib.ListN.{length, take}
use Rattle.terms.specs.declared.Why.TheVariants.{DayEnd}
use Rattle.tables.specs.Live.{orders_in}
use Rattle.acts_law.specs.Acts.{cancel_reports}
use Rattle.acts_law.specs.code.Written.{Written}
use Rattle.acts_reports.proofs.telling.cancel_all.Given as goal

abbrev pub invariant-loop-i : goal.invariant-loop-i
invariant-loop-i l = (length l.room ≡ length l.initial.room) × Written l.initial.room l.at (cancel_reports DayEnd l.time (take l.i (orders_in l.orders))) l.room l.next
