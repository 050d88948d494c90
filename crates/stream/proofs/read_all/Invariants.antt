-- The loop keeps what the reads came to, that each gave a byte at least, and that the buffer has room for another.
use Prim.Native.Nat.{◌<◌}
use mathlib.Core.Path.{◌≡◌}
use lib.ListN.{length}
use Rattle.terms.specs.Sizes.{line_room}
use Rattle.engine_law.specs.Calls.{LongTables}
use Rattle.stream_law.specs.Streams.{says_of}
use Rattle.stream_law.proofs.Hearing.{Listens}
use Rattle.stream.proofs.read_all.Given as goal

abbrev pub invariant-loop-turn : goal.invariant-loop-turn
invariant-loop-turn l =
    Listens (says_of l.mode) l.expected l.given l._turn l.initial.h.held l.initial.h.from l.initial.buf l.initial.buys l.initial.sells l.buf l.buys l.sells l.h.held l.h.from
    × LongTables l.buys l.sells
    × (line_room < length l.buf)
    × (length l.buf ≡ length l.initial.buf)
    × (length l.buys ≡ length l.initial.buys)
    × (length l.sells ≡ length l.initial.sells)
