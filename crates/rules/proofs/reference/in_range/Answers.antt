-- The distance is compared with the reach: percent times reference, over 200, rounded down.
use borrow.Author.Rules.{rules}
use Rattle.rules_law.proofs.Ranges.{range_reach}
use Rattle.rules.proofs.reference.in_range.Goals as goal

pub returns : goal.returns
returns c = search (rules, range_reach)
