-- Orders written as numbers and read back.
use Prim.Native.Nat.{ℕ, zero, suc, ◌+◌, ◌*◌, ◌≤◌, ◌<◌}
use native.Mathlib.Omega.{arith}
use native.Mathlib.Nat.{not-suc-le-zero, le_of_suc-le-suc}
use native.Mathlib.Numerals.{add-one}
use mathlib.Core.Path.{◌≡◌, refl, ap, ◌∙◌}
use mathlib.Core.List.{List, [], ◌∷◌, ◌++◌}
use lib.ListN.{length, get_or, take, drop, length-drop}
use lib.Seq.{drop-cons, get_or-drop, take-add}
use Rattle.terms.specs.declared.Order.{Order}
use Rattle.tables.specs.Lengths.{width}
use Rattle.tables.specs.Tables.{numbers_of, order_at, decode, encode}

pub length-encode : (os : List Order) → length (encode os) ≡ width * length os
unfolding encode
length-encode [] = refl
length-encode (o ∷ os) = let e : length (encode os) ≡ width * length os = length-encode os in omega arith

pub encode-append : (xs ys : List Order) → encode (xs ++ ys) ≡ encode xs ++ encode ys
unfolding encode
encode-append [] ys = refl
encode-append (o ∷ os) ys = ap (λ (l : List ℕ). numbers_of o ++ l) (encode-append os ys)

pub length-decode : (n : ℕ) (t : List ℕ) → length (decode n t) ≡ n
unfolding decode
length-decode zero t = refl
length-decode (suc n) t = ap suc (length-decode n (drop width t))

-- what was written is read back
pub decode-encode : (os : List Order) (r : List ℕ) → decode (length os) (encode os ++ r) ≡ os
unfolding encode decode
decode-encode [] r = refl
decode-encode (o ∷ os) r = ap (λ (l : List Order). o ∷ l) (decode-encode os r)

-- what was read is written back
slot_read : (t : List ℕ) → width ≤ length t → numbers_of (order_at t 0) ≡ take width t
slot_read [] h = absurd (omega arith)
slot_read (a ∷ []) h = absurd (omega arith)
slot_read (a ∷ b ∷ []) h = absurd (omega arith)
slot_read (a ∷ b ∷ c ∷ t) h = refl

pub encode-decode : (n : ℕ) (t : List ℕ) → width * n ≤ length t → encode (decode n t) ≡ take (width * n) t
unfolding encode decode
encode-decode zero t h = refl
encode-decode (suc n) t h =
    let e : width * suc n ≡ width + width * n = omega arith in
    rw (e, take-add width (width * n) t, ← slot_read t (omega arith), encode-decode n (drop width t) (simp length-drop (omega arith)))

-- ---- the orders from slot i on, as a loop over a table comes to them

next_slot : (t : List ℕ) (i : ℕ) → order_at (drop width t) i ≡ order_at t (suc i)
next_slot t i =
    let a : width + width * i ≡ width * suc i = omega arith in
    let b : width + (width * i + 1) ≡ width * suc i + 1 = omega arith in
    let c : width + (width * i + 2) ≡ width * suc i + 2 = omega arith in
    rw (get_or-drop width t (width * i) 0, get_or-drop width t (width * i + 1) 0, get_or-drop width t (width * i + 2) 0, a, b, c)

get_or-decode : (n : ℕ) (t : List ℕ) (i : ℕ) (d : Order) → i < n → get_or (decode n t) i d ≡ order_at t i
unfolding decode
get_or-decode zero t i d h = absurd (not-suc-le-zero h)
get_or-decode (suc n) t zero d h = refl
get_or-decode (suc n) t (suc i) d h = get_or-decode n (drop width t) i d (le_of_suc-le-suc h) ∙ next_slot t i

-- the first of them is the order o that was read in slot i
pub decode_read : (n : ℕ) (t : List ℕ) (i : ℕ) (o : Order) → i < n → o ≡ order_at t i → drop i (decode n t) ≡ o ∷ drop (i + 1) (decode n t)
decode_read n t i o h e =
    let l : length (decode n t) ≡ n = length-decode n t in
    rw (e, add-one i, drop-cons (decode n t) i (order_at t i) (omega arith), get_or-decode n t i (order_at t i) h)

-- from slot n on there are none
pub decode-end : (n : ℕ) (t : List ℕ) (i : ℕ) → n ≤ i → drop i (decode n t) ≡ []
unfolding decode
decode-end zero t zero h = refl
decode-end zero t (suc i) h = refl
decode-end (suc n) t zero h = absurd (not-suc-le-zero h)
decode-end (suc n) t (suc i) h = decode-end n (drop width t) i (le_of_suc-le-suc h)
