-- Each arm is a case of the verdict: the row that refuses is answered, or the event is carried out.
use borrow.Author.Rules.{rules}
use Rattle.engine_law.proofs.Applies.{refused_as, accepted_as}
use Rattle.engine.proofs.apply.judged.Goals as goal

ruleset answers = (rules, refused_as, accepted_as)

pub returns-in-Err : goal.returns-in-Err
returns-in-Err c = search answers

pub returns-in-Ok : goal.returns-in-Ok
returns-in-Ok c = search answers
