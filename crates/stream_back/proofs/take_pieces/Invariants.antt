-- The loop keeps that the same is still to come, and that a byte was read in each turn.
use Prim.Native.Nat.{◌<◌}
use mathlib.Core.Path.{◌≡◌}
use lib.ListN.{length}
use Rattle.terms.specs.Sizes.{line_room}
use Rattle.engine_law.specs.Calls.{LongEnough}
use Rattle.stream_back.proofs.Onwards.{WentOn}
use Rattle.stream_back.proofs.take_pieces.Given as goal

abbrev pub invariant-loop-turn : goal.invariant-loop-turn
invariant-loop-turn l =
    WentOn l.given l._turn l.initial.source l.initial.h l.initial.buf l.initial.buys l.initial.sells l.source l.h l.buf l.buys l.sells
    × LongEnough l.buys l.sells l.room
    × (line_room < length l.buf)
    × (length l.buf ≡ length l.initial.buf)
    × (length l.buys ≡ length l.initial.buys)
    × (length l.sells ≡ length l.initial.sells)
    × (length l.room ≡ length l.initial.room)
