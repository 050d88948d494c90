-- Marking numbers one by one on an empty map finds no mark exactly where the numbers are distinct.
use Prim.Native.Nat.{ℕ, ◌<◌}
use mathlib.Core.Bool.{Bool, true, false, ◌&&◌, ◌||◌, not}
use mathlib.Core.Path.{◌≡◌, refl, sym, ap, ◌∙◌}
use mathlib.Core.List.{List, [], ◌∷◌, ◌++◌}
use lib.Dec.{eqb}
use lib.ListN.{length, replicate, length-set, length-replicate}
use Rattle.terms.specs.Truth.{◌⊓◌}
use Rattle.terms.proofs.Logic.{regroup}
use Rattle.book_sound_law.specs.code.Marks.{word_for, has_mark, with_mark, fresh, marked, is_in, apart}
use Rattle.book_sound_law.proofs.Bits.{mark-tells, no_marks}

-- a map of so many words has a bit for each of the numbers
abbrev pub Inside : ℕ → List ℕ → Type 0
Inside words [] = Unit {0}
Inside words (x ∷ xs) = (word_for x < words) × Inside words xs

inside_append : (words : ℕ) (xs ys : List ℕ) → Inside words xs → Inside words ys → Inside words (xs ++ ys)
inside_append words [] ys p q = q
inside_append words (x ∷ xs) ys p q = (p.0, inside_append words xs ys p.1 q)

-- none of the numbers is marked in the map
none : List ℕ → List ℕ → Bool
none m [] = true
none m (y ∷ ys) = not (has_mark m y) && none m ys

mix : (e h i n : Bool) → (not (e || h) && (not i && n)) ≡ (not (e || i) && (not h && n))
mix true h i n = refl
mix false true true n = refl
mix false true false n = refl
mix false false true n = refl
mix false false false n = refl

none-mark : (m : List ℕ) (x : ℕ) (ys : List ℕ) → word_for x < length m → none (with_mark m x) ys ≡ (not (is_in x ys) && none m ys)
unfolding none is_in
none-mark m x [] h = refl
none-mark m x (y ∷ ys) h = rw (mark-tells m x y h, none-mark m x ys h) (mix (eqb y x) (has_mark m y) (is_in x ys) (none m ys))

reorder : (h i n a : Bool) → (h && ((i && n) && a)) ≡ ((h && n) && (i && a))
reorder true true n a = refl
reorder true false true a = refl
reorder true false false a = refl
reorder false i n a = refl

fresh_is : (m xs : List ℕ) → Inside (length m) xs → fresh m xs ≡ (none m xs && apart xs)
unfolding none apart fresh
fresh_is m [] b = refl
fresh_is m (x ∷ xs) b =
    let same : length (with_mark m x) ≡ length m = length-set m _ _ in
    rw (fresh_is (with_mark m x) xs (rw same b.1), none-mark m x xs b.0) (reorder (not (has_mark m x)) (not (is_in x xs)) (none m xs) (apart xs))

none_empty : (words : ℕ) (xs : List ℕ) → none (replicate words 0) xs ≡ true
unfolding none
none_empty words [] = refl
none_empty words (x ∷ xs) = rw (no_marks words x) (none_empty words xs)

fresh-apart : (words : ℕ) (xs : List ℕ) → Inside words xs → fresh (replicate words 0) xs ≡ apart xs
fresh-apart words xs b =
    let same : length {A = ℕ} (replicate words 0) ≡ words = length-replicate words 0 in
    rw (none_empty words xs) at (fresh_is (replicate words 0) xs (rw same b))

-- marking one run and then another is marking both as one run
fresh-append : (m xs ys : List ℕ) → fresh m (xs ++ ys) ≡ (fresh m xs && fresh (marked m xs) ys)
unfolding fresh marked ◌⊓◌
fresh-append m [] ys = refl
fresh-append m (x ∷ xs) ys =
    rw (fresh-append (with_mark m x) xs ys)
    (regroup _ (not (has_mark m x)) (fresh (with_mark m x) xs) (fresh (marked (with_mark m x) xs) ys) refl)

pub both_fresh : (m xs ys : List ℕ) → m ≡ replicate (length m) 0 → Inside (length m) xs → Inside (length m) ys →
    apart (xs ++ ys) ≡ (fresh m xs && fresh (marked m xs) ys)
both_fresh m xs ys z b c =
    let all : fresh (replicate (length m) 0) (xs ++ ys) ≡ apart (xs ++ ys) = fresh-apart (length m) (xs ++ ys) (inside_append (length m) xs ys b c) in
    sym (ap (λ (e : List ℕ). fresh e (xs ++ ys)) z ∙ all) ∙ fresh-append m xs ys
