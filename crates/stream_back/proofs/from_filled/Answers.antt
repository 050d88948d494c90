-- The first bytes could be read or not.
use Rattle.descriptors.proofs.Parts.{got-within}
use Rattle.stream_back.proofs.Rests.{ended_at, filled_none, filled-some}
use borrow.Author.Rules.{rules}
use Rattle.stream_back.proofs.from_filled.Goals as goal

ruleset answers = (rules, got-within, ended_at, filled_none, filled-some)

pub returns-in-Ok : goal.returns-in-Ok
returns-in-Ok c = search answers
