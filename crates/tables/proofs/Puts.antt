-- The laws of `put`, which writes a run of numbers over a part of a list.
use Prim.Native.Nat.{ℕ, zero, suc, ◌+◌, ◌≤◌, ◌<◌}
use native.Mathlib.Omega.{arith}
use native.Mathlib.Nat.{zero-add, suc-add, not-suc-le-zero, le_of_suc-le-suc}
use mathlib.Core.Path.{◌≡◌, refl, ap}
use mathlib.Core.List.{List, [], ◌∷◌, ◌++◌, append_assoc}
use lib.ListN.{length, get_or, set, length-append, length-take, length-drop, take-append-drop}
use lib.Seq.{drop-drop, take_at, drop_at, sets, sets-eq}
use Rattle.tables.specs.Put.{put}

pub put-none : (t : List ℕ) (at : ℕ) → put t at [] ≡ t
unfolding put
put-none t at = take-append-drop at t

pub length-put : (t : List ℕ) (at : ℕ) (vs : List ℕ) → at + length vs ≤ length t → length (put t at vs) ≡ length t
unfolding put
length-put t at vs h = simp (length-append, length-take, length-drop) (omega arith)

-- a run written over the middle one of three parts
pub put-at : (p m s vs : List ℕ) (at : ℕ) → length p ≡ at → length m ≡ length vs → put (p ++ (m ++ s)) at vs ≡ p ++ (vs ++ s)
unfolding put
put-at p m s vs at e f = rw (take_at p (m ++ s) at e, drop_at p (m ++ s) at e, drop_at m s (length vs) f)

-- storing numbers one by one is writing a run
pub sets_put : (vs t : List ℕ) (at : ℕ) → at + length vs ≤ length t → sets t at vs ≡ put t at vs
unfolding put
sets_put vs t at h = rw (sets-eq vs t at h, append_assoc, drop-drop)

-- ---- one more number stored, in front of a run and behind it

pub put_cons : (t : List ℕ) (at a : ℕ) (vs : List ℕ) → at < length t → set (put t (suc at) vs) at a ≡ put t at (a ∷ vs)
unfolding put
put_cons [] at a vs h = absurd (not-suc-le-zero h)
put_cons (x ∷ t) zero a vs h = refl
put_cons (x ∷ t) (suc at) a vs h = ap (λ (l : List ℕ). x ∷ l) (put_cons t at a vs (le_of_suc-le-suc h))

snoc_front : (t : List ℕ) (a : ℕ) (vs : List ℕ) → length vs < length t → set (put t 0 vs) (length vs) a ≡ put t 0 (vs ++ (a ∷ []))
unfolding put
snoc_front [] a vs h = absurd (not-suc-le-zero h)
snoc_front (x ∷ t) a [] h = refl
snoc_front (x ∷ t) a (v ∷ vs) h = ap (λ (l : List ℕ). v ∷ l) (snoc_front t a vs (le_of_suc-le-suc h))

pub put_snoc : (t : List ℕ) (at a : ℕ) (vs : List ℕ) → at + length vs < length t → set (put t at vs) (at + length vs) a ≡ put t at (vs ++ (a ∷ []))
unfolding put
put_snoc [] at a vs h = absurd (not-suc-le-zero h)
put_snoc (x ∷ t) zero a vs h = rw zero-add (snoc_front (x ∷ t) a vs (omega arith))
put_snoc (x ∷ t) (suc at) a vs h = rw suc-add (ap (λ (l : List ℕ). x ∷ l) (put_snoc t at a vs (omega arith)))

-- ---- a number past a run, or before it, reads as it did

above-front : (t vs : List ℕ) (k : ℕ) → length vs ≤ k → k < length t → get_or (put t 0 vs) k 0 ≡ get_or t k 0
unfolding put
above-front [] vs k g h = absurd (not-suc-le-zero h)
above-front (x ∷ t) [] k g h = refl
above-front (x ∷ t) (v ∷ vs) zero g h = absurd (not-suc-le-zero g)
above-front (x ∷ t) (v ∷ vs) (suc k) g h = above-front t vs k (le_of_suc-le-suc g) (le_of_suc-le-suc h)

pub get_or-put-above : (t : List ℕ) (at : ℕ) (vs : List ℕ) (k : ℕ) → at + length vs ≤ k → k < length t → get_or (put t at vs) k 0 ≡ get_or t k 0
unfolding put
get_or-put-above [] at vs k g h = absurd (not-suc-le-zero h)
get_or-put-above (x ∷ t) zero vs k g h = above-front (x ∷ t) vs k (omega arith) h
get_or-put-above (x ∷ t) (suc at) vs zero g h = absurd (omega arith)
get_or-put-above (x ∷ t) (suc at) vs (suc k) g h = get_or-put-above t at vs k (omega arith) (le_of_suc-le-suc h)

pub get_or-put-below : (t : List ℕ) (at : ℕ) (vs : List ℕ) (k : ℕ) → k < at → k < length t → get_or (put t at vs) k 0 ≡ get_or t k 0
unfolding put
get_or-put-below [] at vs k g h = absurd (not-suc-le-zero h)
get_or-put-below (x ∷ t) zero vs k g h = absurd (not-suc-le-zero g)
get_or-put-below (x ∷ t) (suc at) vs zero g h = refl
get_or-put-below (x ∷ t) (suc at) vs (suc k) g h = get_or-put-below t at vs k (le_of_suc-le-suc g) (le_of_suc-le-suc h)

-- ---- two runs that touch are one run, whichever was written first

behind-front : (t xs ys : List ℕ) → length xs ≤ length t → put (put t 0 xs) (length xs) ys ≡ put t 0 (xs ++ ys)
unfolding put
behind-front t [] ys h = refl
behind-front [] (x ∷ xs) ys h = absurd (not-suc-le-zero h)
behind-front (a ∷ t) (x ∷ xs) ys h = ap (λ (l : List ℕ). x ∷ l) (behind-front t xs ys (le_of_suc-le-suc h))

pub put-put : (t : List ℕ) (at : ℕ) (xs ys : List ℕ) → at + length xs ≤ length t → put (put t at xs) (at + length xs) ys ≡ put t at (xs ++ ys)
unfolding put
put-put t zero xs ys h = rw zero-add (behind-front t xs ys (omega arith))
put-put [] (suc at) xs ys h = absurd (omega arith)
put-put (x ∷ t) (suc at) xs ys h = rw suc-add (ap (λ (l : List ℕ). x ∷ l) (put-put t at xs ys (omega arith)))

before-front : (t xs ys : List ℕ) → length xs ≤ length t → put (put t (length xs) ys) 0 xs ≡ put t 0 (xs ++ ys)
unfolding put
before-front t [] ys h = refl
before-front [] (x ∷ xs) ys h = absurd (not-suc-le-zero h)
before-front (a ∷ t) (x ∷ xs) ys h = ap (λ (l : List ℕ). x ∷ l) (before-front t xs ys (le_of_suc-le-suc h))

pub put-put-before : (t : List ℕ) (at : ℕ) (xs ys : List ℕ) → at + length xs ≤ length t → put (put t (at + length xs) ys) at xs ≡ put t at (xs ++ ys)
unfolding put
put-put-before t zero xs ys h = rw zero-add (before-front t xs ys (omega arith))
put-put-before [] (suc at) xs ys h = absurd (omega arith)
put-put-before (x ∷ t) (suc at) xs ys h = rw suc-add (ap (λ (l : List ℕ). x ∷ l) (put-put-before t at xs ys (omega arith)))
