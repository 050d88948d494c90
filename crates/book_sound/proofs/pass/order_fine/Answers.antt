-- If the bounds fail, the order is not fine; if they hold, the test of the tick decides.
use borrow.Author.Rules.{rules}
use Rattle.book_sound_law.proofs.Turns.{fine_bounds, bounded_small, fine_tick}
use Rattle.book_sound.proofs.pass.order_fine.Goals as goal

ruleset answers = (rules, fine_bounds, bounded_small, fine_tick)

pub returns-then-not-lots-number : goal.returns-then-not-lots-number
returns-then-not-lots-number c = search answers

pub returns : goal.returns
returns c = search answers
