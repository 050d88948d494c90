-- The loop keeps what the reads came to, that each gave a byte at least, and that the buffer has room for another.
use Rattle.stream_law.proofs.Hearing.{listens_start, listens_room, listens_then, listens_off, listens_all}
use borrow.Author.Rules.{rules}
use Rattle.stream.proofs.read_all.Goals as goal

ruleset answers = (rules, listens_start, listens_room, listens_then, listens_off, listens_all)

pub loop-turn-init : goal.loop-turn-init
loop-turn-init c = search answers

pub returns-then-not-is_on : goal.returns-then-not-is_on
returns-then-not-is_on c = search answers

pub loop-turn-preserved : goal.loop-turn-preserved
loop-turn-preserved c = search answers
