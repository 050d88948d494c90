-- Each return is one case: an underlying is known, or none is.
use borrow.Author.Tests.{eq-eqb, ne_eqb}
use Rattle.rules_law.specs.Reference.{theoretical_or}
use Rattle.rules.proofs.reference.theoretical_or.Goals as goal

pub returns-then-under-eq0 : goal.returns-then-under-eq0
unfolding theoretical_or
returns-then-under-eq0 c = simp (eq-eqb _ _ c.if-under-eq0.true)

pub returns : goal.returns
unfolding theoretical_or
returns c = simp (c.theoretical.ensures.0, ne_eqb _ _ c.if-under-eq0.false)
