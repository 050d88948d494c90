-- The newest of the remembered prices is the last trade's.
use Rattle.rules_law.specs.Close.{last_or}
use borrow.Author.Rules.{rules}
use Rattle.rules.proofs.close.last_or.Goals as goal

pub returns : goal.returns
unfolding last_or
returns c = search rules
