-- Neither product overflows, and they give the price back exactly where it is a multiple of the tick.
use borrow.Author.Rules.{rules}
use Rattle.terms.proofs.Multiples.{wide_fits, back_fits, tick_is}
use Rattle.terms.proofs.ticks.on_tick.Goals as goal

ruleset answers = (rules, wide_fits, back_fits, tick_is)

pub returns : goal.returns
returns c = search answers
