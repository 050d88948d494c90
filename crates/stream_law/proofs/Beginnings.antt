-- What it means that some bytes are the first bytes of others.
use Prim.Native.Nat.{ℕ, zero, suc, ◌+◌, ◌-◌, ◌≤◌, ◌<◌}
use native.Mathlib.Omega.{arith}
use native.Mathlib.Nat.{le_of_eq, le_of_lt}
use mathlib.Core.Path.{◌≡◌, refl, sym, ap, ◌∙◌}
use mathlib.Core.Bool.{Bool, true, false, cond, false≢true}
use mathlib.Core.List.{List, [], ◌∷◌, ◌++◌}
use lib.ListN.{length, take, drop, length-append, length-drop, drop_of_length-le}
use lib.Seq.{take_all}
use lib.Dec.{eqb}
use lib.Pointwise.{pointwise}
use borrow.Author.Tests.{eqb-true, eq-eqb, ne_eqb}
use Rattle.terms.proofs.Logic.{cases}
use Rattle.stream_law.specs.Sinks.{begins}

-- ---- the first bytes, and the others behind them

pub begins_is : (xs ys : List ℕ) → begins xs ys ≡ true → xs ++ drop (length xs) ys ≡ ys
unfolding begins
begins_is [] ys e = refl
begins_is (x ∷ xs) [] e = absurd (false≢true e)
begins_is (x ∷ xs) (y ∷ ys) e =
    cases (eqb x y)
    (λ h.
    let s : x ≡ y = eqb-true x y h in
    let t : begins xs ys ≡ true = rw h at e in
    (λ i. s i ∷ begins_is xs ys t i))
    (λ h. absurd (false≢true (rw h at e)))

pub begins_self : (xs : List ℕ) → begins xs xs ≡ true
unfolding begins
begins_self [] = refl
begins_self (x ∷ xs) = rw (eq-eqb x x refl) (begins_self xs)

pub begins-take : (n : ℕ) (xs : List ℕ) → begins (take n xs) xs ≡ true
unfolding begins
begins-take zero xs = refl
begins-take (suc n) [] = refl
begins-take (suc n) (x ∷ xs) = rw (eq-eqb x x refl) (begins-take n xs)

-- ---- one text behind another

pub begins-append : (xs zs ys : List ℕ) → begins (xs ++ zs) ys ≡ cond (begins xs ys) (begins zs (drop (length xs) ys)) false
unfolding begins
begins-append [] zs ys = refl
begins-append (x ∷ xs) zs [] = refl
begins-append (x ∷ xs) zs (y ∷ ys) =
    cases (eqb x y) (λ h. rw h (begins-append xs zs ys)) (λ h. rw h)

-- bytes that are longer than others are not their first bytes
longer : (xs ys : List ℕ) → length ys < length xs → begins xs ys ≡ false
unfolding begins
longer [] ys h = absurd (omega arith)
longer (x ∷ xs) [] h = refl
longer (x ∷ xs) (y ∷ ys) h =
    let l : length ys < length xs = omega arith in
    cases (eqb x y) (λ e. rw e (longer xs ys l)) (λ e. rw e)

pub not_longer : (xs ys : List ℕ) → length ys < length xs → false ≡ begins xs ys
not_longer xs ys h = sym (longer xs ys h)

-- ---- as std compares a slice with its beginning

begins-prefix : (xs ys : List ℕ) → pointwise eqb xs (take (length xs) ys) ≡ begins xs ys
unfolding begins
begins-prefix [] ys = refl
begins-prefix (x ∷ xs) [] = refl
begins-prefix (x ∷ xs) (y ∷ ys) = cases (eqb x y) (λ h. rw h (begins-prefix xs ys)) (λ h. rw h)

-- ---- the place up to which an expected output was printed

-- the rest of a slice, as code lends it
pub rest_is : (bytes : List ℕ) (at : ℕ) → take (length bytes - at) (drop at bytes) ≡ drop at bytes
rest_is bytes at = take_all (length bytes - at) (drop at bytes) (le_of_eq (length-drop at bytes))

pub part-within : (s : List ℕ) (a n : ℕ) → a ≤ length s → n ≤ length (take (length s - a) (drop a s)) → a + n ≤ length s
part-within s a n h k =
    let l = ap length (rest_is s a) ∙ length-drop a s in
    omega arith

-- past the end of the expected output, only no bytes at all agree with it
pub past_end : (xs ys : List ℕ) (at : ℕ) → length ys < at → eqb (length xs) 0 ≡ begins xs (drop at ys)
unfolding begins
past_end [] ys at h = eq-eqb 0 0 refl
past_end (x ∷ xs) ys at h = rw (drop_of_length-le ys (le_of_lt h)) (ne_eqb (suc (length xs)) 0 (λ e. omega arith))

-- the bytes of the expected output behind the place decide
pub begins-there : (xs ys : List ℕ) (at : ℕ) {found : Bool} → found ≡ pointwise eqb xs (take (length xs) (take (length ys - at) (drop at ys))) →
    found ≡ begins xs (drop at ys)
begins-there xs ys at e = e ∙ begins-prefix xs (take (length ys - at) (drop at ys)) ∙ ap (begins xs) (rest_is ys at)

-- Bytes that agree from a place on end within the expected output, or there are none: so the next place fits a machine number too.
pub next_fits : (xs ys : List ℕ) (at most : ℕ) {found : Bool} → found ≡ begins xs (drop at ys) → found ≡ true → at < most → length ys < most →
    at + length xs < most
next_fits xs ys at most e t h k =
    let l = ap length (begins_is xs (drop at ys) (sym e ∙ t)) ∙ length-drop at ys in
    let m = length-append xs (drop (length xs) (drop at ys)) in
    omega arith

pub mark-fits : (mark : ℕ) (ys : List ℕ) (at most : ℕ) {found : Bool} → found ≡ begins (mark ∷ []) (drop at ys) → found ≡ true → at < most →
    length ys < most → at + 1 < most
mark-fits mark = next_fits (mark ∷ [])

-- ---- how many bytes of the expected output are left

pub left-none : (ys : List ℕ) (at : ℕ) → length ys < at → 0 ≡ length (drop at ys)
left-none ys at h = let l = length-drop at ys in omega arith

pub left-some : (ys : List ℕ) (at : ℕ) → length ys - at ≡ length (drop at ys)
left-some ys at = sym (length-drop at ys)

pub pass_fits : (ys : List ℕ) (at n most : ℕ) {left : ℕ} → left ≡ length (drop at ys) → n ≤ left → at < most → length ys < most → at + n < most
pass_fits ys at n most e h k m = let l = e ∙ length-drop at ys in omega arith
