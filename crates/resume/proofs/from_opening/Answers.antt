-- The tables of the replay are laid over the lent ones.
use borrow.Author.Rules.{rules}
use Rattle.resume_law.proofs.Lays.{scratch-enough, fits-buys, fits-sells, opening-resumed}
use Rattle.resume.proofs.from_opening.Goals as goal

ruleset answers = (rules, scratch-enough, fits-buys, fits-sells, opening-resumed)

pub returns : goal.returns
returns c = search answers
