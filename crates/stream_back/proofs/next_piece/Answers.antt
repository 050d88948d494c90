-- All is told, or a read is made behind what is left.
use Rattle.stream_back.proofs.Onwards.{piece-within, piece-left, piece-ends, piece-goes}
use borrow.Author.Rules.{rules}
use Rattle.stream_back.proofs.next_piece.Goals as goal

ruleset answers = (rules, piece-within, piece-left, piece-ends, piece-goes)

pub returns-then-not-p : goal.returns-then-not-p
returns-then-not-p c = search answers

pub returns : goal.returns
returns c = search answers
