-- What stands behind the settings line is the first piece.
use Rattle.resume_law.proofs.Replays.{long_kept}
use Rattle.stream_back.proofs.Onwards.{first_piece, first-there}
use borrow.Author.Rules.{rules}
use Rattle.stream_back.proofs.from_opening.Goals as goal

ruleset answers = (rules, long_kept, first_piece, first-there)

pub returns : goal.returns
returns c = search answers
