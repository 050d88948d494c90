-- With fewer than ten remembered the code stores at the next place; with ten it moves them down.
use borrow.Author.Tests.{lt-ltb}
use Rattle.rules_law.specs.Close.{remembered}
use borrow.Author.Rules.{rules}
use Rattle.rules_law.proofs.Tapes.{shifted}
use Rattle.rules.proofs.close.pushed.Goals as goal

pub returns-then-n-lt10 : goal.returns-then-n-lt10
unfolding remembered
returns-then-n-lt10 c = simp (lt-ltb _ _ c.if-n-lt10.true)

pub returns : goal.returns
returns c = shifted c.args.ten c.args.n c.args.x (search rules) c.if-n-lt10.false
