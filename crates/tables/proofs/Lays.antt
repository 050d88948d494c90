-- The loop that writes numbers to the front of a slice: what holds before the first turn, after each turn, and at the end.
use Prim.Native.Nat.{ℕ, ◌+◌, ◌≤◌, ◌<◌}
use native.Mathlib.Omega.{arith}
use native.Mathlib.Nat.{zero-add}
use native.Mathlib.Numerals.{add-one}
use mathlib.Core.Path.{◌≡◌, sym}
use mathlib.Core.List.{List, []}
use lib.ListN.{length, get_or, take, set}
use lib.Seq.{take-suc, length-take-le, take_all}
use Rattle.tables.specs.Put.{put}
use Rattle.tables.proofs.Puts.{put-none, put_snoc}

pub laid_none : (run : List ℕ) → run ≡ put run 0 []
laid_none run = sym (put-none run 0)

pub laid_turn : (run₀ run ns : List ℕ) (j : ℕ) → length ns ≤ length run₀ → j < length ns → run ≡ put run₀ 0 (take j ns)
    → set run j (get_or ns j 0) ≡ put run₀ 0 (take (j + 1) ns)
laid_turn run₀ run ns j h k e =
    let l : length (take j ns) ≡ j = length-take-le j ns (omega arith) in
    rw (e, add-one, take-suc ns j 0) (rw (l, zero-add) at (put_snoc run₀ 0 (get_or ns j 0) (take j ns) (omega arith)))

pub laid-all : (run₀ run ns : List ℕ) (j : ℕ) → run ≡ put run₀ 0 (take j ns) → j ≤ length ns → length ns ≤ j → run ≡ put run₀ 0 ns
laid-all run₀ run ns j e h g = rw (take_all j ns g) at e
