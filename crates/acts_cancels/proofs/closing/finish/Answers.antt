-- The reports are written first, and then both tables are cleared from their start on.
use borrow.Author.Rules.{rules}
use Rattle.acts_law.proofs.Ends.{all_finished}
use Rattle.acts_cancels.proofs.closing.finish.Goals as goal

ruleset answers = (rules, all_finished)

pub returns : goal.returns
returns c = search answers
