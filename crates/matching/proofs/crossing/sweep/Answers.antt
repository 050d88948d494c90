-- The loop's answer says how the sweep ends, and the settled table holds the orders that it leaves.
use Rattle.matching_law.proofs.Settles.{swept_into}
use borrow.Author.Rules.{rules}
use Rattle.matching.proofs.crossing.sweep.Goals as goal

ruleset answers = (rules, swept_into)

pub returns : goal.returns
returns c = search answers
