-- The two best prices are compared first; if they are apart, the passes decide.
use borrow.Author.Rules.{rules}
use Rattle.book_sound_law.proofs.Books.{book-crossed, limits_fit, tables_are}
use Rattle.book_sound.proofs.book_sound.Goals as goal

ruleset answers = (rules, book-crossed, limits_fit, tables_are)

pub returns-then-not-best_apart : goal.returns-then-not-best_apart
returns-then-not-best_apart c = search answers

pub returns : goal.returns
returns c = search answers
