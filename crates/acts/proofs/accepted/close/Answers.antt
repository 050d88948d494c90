-- The cancels and the close report are written; the session keeps all but its time, the closed mark and the live counts.
use borrow.Author.Rules.{rules}
use Rattle.engine_law.proofs.Dones.{finishes, closed_done}
use Rattle.acts.proofs.accepted.close.Goals as goal

ruleset answers = (rules, finishes, closed_done)

pub finish-at-requires : goal.finish-at-requires
finish-at-requires c = search answers

pub returns : goal.returns
returns c = search answers
