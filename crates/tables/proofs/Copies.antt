-- What the methods of a slice write is a run of numbers, put over a part of it.
use Prim.Native.Nat.{ℕ, ◌+◌, ◌-◌, ◌≤◌}
use native.Mathlib.Omega.{arith}
use mathlib.Core.Path.{◌≡◌, refl}
use mathlib.Core.List.{List, append_assoc}
use lib.ListN.{length, take, drop, replicate, length-drop, length-replicate}
use lib.Seq.{paste, drop-drop, length-take-le}
use borrow.Rule.Slice.PartMut.{put_mid}
use Rattle.tables.specs.Put.{put}

-- a part of a list, copied to another place
pub copied_put : (t u : List ℕ) (to from count : ℕ) → from + count ≤ length t → u ≡ paste t to (drop from t) (from + count - from) → u ≡ put t to (take count (drop from t))
unfolding put
copied_put t u to from count h e =
    let d : from + count - from ≡ count = omega arith in
    let l : length (take count (drop from t)) ≡ count = length-take-le count (drop from t) (omega (arith, length-drop from t)) in
    rw (l, drop-drop count to t, ← append_assoc) (rw d at e)

-- a part filled with zeros
pub cleared_put : (t zs : List ℕ) (at count : ℕ) → zs ≡ replicate count 0 → put_mid at (at + count - at) t zs ≡ put t at (replicate count 0)
unfolding put
cleared_put t zs at count e =
    let d : at + count - at ≡ count = omega arith in
    rw (e, d, length-replicate {A = ℕ} count 0) refl
