-- The second pass goes on from the marks of the first.
use borrow.Author.Rules.{rules}
use Rattle.book_sound_law.proofs.Both.{both_stop, both_end}
use Rattle.book_sound.proofs.pass.sides_by.Goals as goal

ruleset answers = (rules, both_stop, both_end)

pub returns-then-not-side_by : goal.returns-then-not-side_by
returns-then-not-side_by c = search answers

pub returns : goal.returns
returns c = search answers
