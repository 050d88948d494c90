-- Bytes of a buffer are moved to its front.
use Prim.Native.Nat.{ℕ, zero, suc, ◌-◌, ◌≤◌}
use native.Mathlib.Omega.{arith}
use native.Mathlib.Nat.{zero-add}
use mathlib.Core.Path.{◌≡◌, sym, ap, ◌∙◌, subst}
use mathlib.Core.List.{List, [], ◌∷◌}
use lib.ListN.{length, take, drop, length-drop}
use lib.Seq.{paste, take-nil, take-paste}
use Rattle.stream_law.specs.Streams.{ToFront}

-- the bytes before start and those from n on can be cut off in either order
pub drop-take : (s : List ℕ) (start n : ℕ) → start ≤ n → drop start (take n s) ≡ take (n - start) (drop start s)
drop-take s zero n h = let e : n ≡ n - 0 = omega arith in ap (λ (k : ℕ). take k s) e
drop-take [] (suc start) zero h = absurd (omega arith)
drop-take [] (suc start) (suc n) h = sym (take-nil (suc n - suc start))
drop-take (x ∷ s) (suc start) zero h = absurd (omega arith)
drop-take (x ∷ s) (suc start) (suc n) h =
    let e : suc n - suc start ≡ n - start = omega arith in
    drop-take s start n (omega arith) ∙ ap (λ (k : ℕ). take k (drop start s)) (sym e)

-- as std moves them
pub moved_front : {buf buf' : List ℕ} {start end : ℕ} → buf' ≡ paste buf 0 (drop start buf) (end - start) → start ≤ end → end ≤ length buf →
    ToFront buf start end buf'
moved_front {buf} {buf'} {start} {end} e h k =
    let n : ℕ = end - start in
    let there : n ≤ length (drop start buf) = rw (length-drop start buf) (omega arith) in
    subst (ToFront buf start end) (sym e)
    (record {
      front =
          ap (λ (i : ℕ). take i (paste buf 0 (drop start buf) n)) (sym (zero-add n))
          ∙ take-paste buf 0 (drop start buf) n (omega arith) there
          ∙ sym (drop-take buf start end h);
    })
