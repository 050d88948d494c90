-- Bytes are put into a room one after the other.
use Prim.Native.Nat.{ℕ, ◌+◌, ◌≤◌, ◌<◌}
use native.Mathlib.Omega.{arith}
use mathlib.Core.Path.{◌≡◌, ◌∙◌}
use mathlib.Core.List.{List, [], ◌∷◌, ◌++◌}
use lib.ListN.{length, set, length-append}
use Rattle.tables.specs.Put.{put}
use Rattle.tables.proofs.Puts.{put-none, put_cons, put-put}
use Rattle.lines_text_law.specs.code.Room.{Put}

-- a store at a place is one byte put there
pub set-put : (d : List ℕ) (i x : ℕ) → i < length d → set d i x ≡ put d i (x ∷ [])
set-put d i x h = rw put-none at (put_cons d i x [] h)

-- two runs of bytes put one behind the other are both put at once
pub put_then : (d : List ℕ) (n : ℕ) (a b : List ℕ) (k : ℕ) → k ≡ n + length a → n + length a ≤ length d → put (put d n a) k b ≡ put d n (a ++ b)
put_then d n a b k q h = rw q (put-put d n a b h)

pub then : {d x d₁ y d₂ : List ℕ} {n k r : ℕ} → n + length x ≤ length d → Put d n x d₁ k → Put d₁ k y d₂ r → Put d n (x ++ y) d₂ r
then {d} {x} {d₁} {y} {d₂} {n} {k} {r} h p q =
    let a = p.next in
    let b = q.next in
    record {
      next = rw length-append (omega arith);
      laid = q.laid ∙ rw p.laid (put_then d n x y k p.next h);
    }
