-- The code makes the definition's tests in the same order.
use borrow.Author.Tests.{eq-eqb, ne_eqb}
use Rattle.rules_law.specs.Slabs.{cooling_after}
use Rattle.rules.proofs.slabs.cooling_after.Goals as goal

pub returns-then-widened-ne0 : goal.returns-then-widened-ne0
unfolding cooling_after
returns-then-widened-ne0 c = simp (ne_eqb _ _ c.if-widened-ne0.true)

pub returns-then-cooling-ne0 : goal.returns-then-cooling-ne0
unfolding cooling_after
returns-then-cooling-ne0 c = simp (ne_eqb _ _ c.if-cooling-ne0.true, eq-eqb _ _ c.if-widened-ne0.false)

pub returns-then-price-b : goal.returns-then-price-b
unfolding cooling_after
returns-then-price-b c = simp (c.if-price-b.true, eq-eqb _ _ c.if-cooling-ne0.false, eq-eqb _ _ c.if-widened-ne0.false)

pub returns : goal.returns
unfolding cooling_after
returns c = simp (c.if-price-b.false, eq-eqb _ _ c.if-cooling-ne0.false, eq-eqb _ _ c.if-widened-ne0.false)
