-- A small map that finds no equal low bits has shown the numbers distinct; otherwise the large map decides.
use borrow.Author.Rules.{rules}
use Rattle.book_sound_law.proofs.LowBits.{no_clash, all-numbers}
use Rattle.book_sound.proofs.pass.sides.Goals as goal

ruleset answers = (rules, no_clash, all-numbers)

pub returns-then-sides_least : goal.returns-then-sides_least
returns-then-sides_least c = search answers

pub returns : goal.returns
returns c = search answers
