-- The table in the source is the list that the definition computes, and the test of that list holds of this entry.
use borrow.Author.Rules.{rules}
use Rattle.rules_law.proofs.Factors.{factors, factor_is}
use Rattle.rules.proofs.growth.factor.Goals as goal

pub returns : goal.returns
unfolding factors
returns c = let f = factor_is c.args.days (search rules) in (f.is, f.most)
