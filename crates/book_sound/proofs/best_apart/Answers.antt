-- A side has no order, or the first order of each is its best.
use borrow.Author.Rules.{rules}
use Rattle.book_sound_law.proofs.Books.{no-buys, no-sells, bests}
use Rattle.book_sound.proofs.best_apart.Goals as goal

ruleset answers = (rules, no-buys, no-sells, bests)

pub returns-then-buys-eq0 : goal.returns-then-buys-eq0
returns-then-buys-eq0 c = search answers

pub returns-then-sells-eq0 : goal.returns-then-sells-eq0
returns-then-sells-eq0 c = search answers

pub returns : goal.returns
returns c = search answers
