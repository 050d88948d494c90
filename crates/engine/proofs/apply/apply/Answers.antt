-- The lengths decide row 1, and then the other rows are judged.
use borrow.Author.Rules.{rules}
use Rattle.engine_law.proofs.Applies.{found_long, too_small}
use Rattle.engine.proofs.apply.apply.Goals as goal

ruleset answers = (rules, too_small)

pub returns-then-not-is_roomy : goal.returns-then-not-is_roomy
returns-then-not-is_roomy c = search answers

pub judged-requires : goal.judged-requires
judged-requires c = found_long _ _ _ _ c.is_roomy.ensures c.if-not-is_roomy.false-raw
