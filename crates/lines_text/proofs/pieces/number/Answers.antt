-- At each turn, the digits left make the number that the whole makes, and the value so far has as many digits as were read.
use Rattle.lines_text_law.proofs.Digits.{digit_passed, digit_refused}
use Rattle.lines_text_law.proofs.Steps.{digits_start, digits-end, digits-stop, digits_turn}
use borrow.Author.Rules.{rules}
use Rattle.lines_text.proofs.pieces.number.Goals as goal

ruleset answers = (rules, digit_passed, digit_refused, digits_start, digits-end, digits-stop, digits_turn)

pub returns-then-not-is_ascii_digit-2 : goal.returns-then-not-is_ascii_digit-2
returns-then-not-is_ascii_digit-2 c = search answers

pub loop-d-init : goal.loop-d-init
loop-d-init c = search (answers, c.in_ok-first.was)

pub loop-d-preserved : goal.loop-d-preserved
loop-d-preserved c = search answers

pub returns : goal.returns
returns c = search answers
