-- At each turn the rest of the pass, from the present key and map on, comes to what the whole pass does; so do the marks.
use borrow.Author.Rules.{rules}
use Rattle.book_sound_law.proofs.Turns.{fine_keyed, inside, marks_all, marks_turn, pass_all, pass_bad, pass_unsorted, pass-seen, pass-turn}
use Rattle.book_sound.proofs.pass.side_by.Goals as goal

ruleset answers = (rules, fine_keyed, inside, marks_all, marks_turn, pass_all, pass_bad, pass_unsorted, pass-seen, pass-turn)

pub returns-then-not-order_fine : goal.returns-then-not-order_fine
returns-then-not-order_fine c = search answers

pub key-next-requires : goal.key-next-requires
key-next-requires c = search answers

pub returns-then-next-last : goal.returns-then-next-last
returns-then-next-last c = search answers

pub returns-then-mark : goal.returns-then-mark
returns-then-mark c = search answers

pub loop-i-preserved : goal.loop-i-preserved
loop-i-preserved c = (search answers, search pass-turn, search marks_turn)

pub returns : goal.returns
returns c = search answers
