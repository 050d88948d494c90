-- The newest of the remembered sizes is the last trade's lots.
use Rattle.rules_law.specs.Close.{last_lots}
use borrow.Author.Rules.{rules}
use Rattle.rules.proofs.close.last_lots.Goals as goal

pub returns : goal.returns
unfolding last_lots
returns c = search rules
