-- The piece is the start of a line, or its lines are replayed.
use Rattle.resume_law.proofs.Standings.{piece_starts, piece-replayed}
use borrow.Author.Rules.{rules}
use Rattle.resume_pieces.proofs.take_piece.Goals as goal

ruleset answers = (rules, piece_starts, piece-replayed)

pub returns : goal.returns
returns c = search answers
