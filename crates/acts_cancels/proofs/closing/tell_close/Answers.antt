-- The cancels of the sells stand behind those of the buys, and the close report stands behind both.
use borrow.Author.Rules.{rules}
use Rattle.acts_law.proofs.Ends.{sells_fit, close_fits, all_told}
use Rattle.acts_cancels.proofs.closing.tell_close.Goals as goal

ruleset answers = (rules, sells_fit, close_fits, all_told)

pub cancel_all-sold-requires : goal.cancel_all-sold-requires
cancel_all-sold-requires c = search answers

pub tell-requires : goal.tell-requires
tell-requires c = search answers

pub returns : goal.returns
returns c = search answers
