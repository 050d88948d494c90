-- After each turn the trades so far are in the tally, and the rest added to it gives the tally of all ten; no sum overflows.
use lib.ListN.{length}
use Rattle.rules_law.proofs.Tapes.{Tallying}
use Rattle.rules.proofs.close.last_ten.Given as goal

abbrev pub invariant-loop-price : goal.invariant-loop-price
invariant-loop-price l = Tallying l.fn.prices l.fn.sizes l.t (length l.yielded)
