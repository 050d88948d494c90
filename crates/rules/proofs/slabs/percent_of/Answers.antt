-- Each return is one case: the initial slab or the enhanced one.
use borrow.Author.Tests.{eq-eqb, ne_eqb}
use Rattle.rules_law.specs.Slabs.{percent_of}
use borrow.Author.Rules.{rules}
use Rattle.rules.proofs.slabs.percent_of.Goals as goal

pub returns-then-widened-eq0 : goal.returns-then-widened-eq0
unfolding percent_of
returns-then-widened-eq0 c = search (rules, eq-eqb, ne_eqb)

pub returns : goal.returns
unfolding percent_of
returns c = search (rules, eq-eqb, ne_eqb)
