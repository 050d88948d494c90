-- The laws of numerals: a numeral is read to its end, whatever is read as a number is a numeral, and how long a numeral is.
use Prim.Native.Nat.{ℕ, zero, suc, ◌+◌, ◌-◌, ◌*◌, ◌/◌, ◌%◌, ◌^◌, ◌≤◌, ◌<◌}
use native.Mathlib.Nat.{pow-suc, pow-le-pow_right}
use native.Mathlib.Omega.{arith}
use mathlib.Core.Path.{◌≡◌, refl, sym, ◌∙◌}
use mathlib.Core.Bool.{Bool, true, false}
use mathlib.Core.List.{List, [], ◌∷◌, ◌++◌, append_assoc}
use lib.ListN.{length, length-append}
use lib.Dec.{ltb, eqb}
use borrow.Author.Tests.{ltb-true, ltb-false, lt-ltb, le-ltb, lt-leb, le-leb, ne_eqb, eqb-true, eqb-false}
use Rattle.std.specs.Char.{is_ascii_digit}
use Rattle.terms.specs.Sizes.{written_most}
use Rattle.terms.proofs.Logic.{cases}
use Rattle.lines_text_law.specs.Numerals.{dec, numeral}
use Rattle.lines_text_law.specs.Grammar.{LineAnswer, digit, more, numeral_then}

-- ---- what the test for a digit says of a byte

pub digit-yes : (x : ℕ) → 48 ≤ x → x < 58 → digit x ≡ true
digit-yes x a b = rw (le-ltb x 48 a, lt-ltb x 58 b)

pub digit_low : (x : ℕ) → x < 48 → digit x ≡ false
digit_low x a = rw (lt-ltb x 48 a)

pub digit_high : (x : ℕ) → 58 ≤ x → digit x ≡ false
digit_high x a = rw (le-ltb x 48 (omega arith), le-ltb x 58 a)

-- three cases: x lies below the digits, among them, or above
by_range : {P : Type 0} (x : ℕ) → (x < 48 → P) → (48 ≤ x → x < 58 → P) → (58 ≤ x → P) → P
by_range x a b c =
    cases (ltb x 48) (λ q. a (ltb-true x 48 q))
    (λ q. cases (ltb x 58) (λ k. b (ltb-false x 48 q) (ltb-true x 58 k)) (λ k. c (ltb-false x 58 k)))

pub digit-range : (x : ℕ) → digit x ≡ true → (48 ≤ x) × (x < 58)
digit-range x e =
    cases (ltb x 48)
    (λ q. let z : true ≡ false = sym e ∙ digit_low x (ltb-true x 48 q) in let w : ◌≡◌ {A = ℕ} 0 1 = cc in omega arith)
    (λ q. (ltb-false x 48 q, ltb-true x 58 (rw q at e)))

-- and what std's test says, where code let a byte pass or not
std-digit : (x : ℕ) → is_ascii_digit x ≡ digit x
std-digit x = by_range x (λ h. rw (lt-leb 48 x h, digit_low x h)) (λ h k. rw (le-leb 48 x h, le-leb x 57 (omega arith), digit-yes x h k))
    (λ h. rw (le-leb 48 x (omega arith), lt-leb x 57 (omega arith), digit_high x h))

pub digit_passed : (x : ℕ) (r : Bool) → r ≡ is_ascii_digit x → r ≡ true → digit x ≡ true
digit_passed x r e t = sym (std-digit x) ∙ (sym e ∙ t)

pub digit_refused : (x : ℕ) (r : Bool) → r ≡ is_ascii_digit x → r ≡ false → digit x ≡ false
digit_refused x r e t = sym (std-digit x) ∙ (sym e ∙ t)

-- ---- a numeral by its last digit

pub dec-small : (f n : ℕ) → n < 10 → dec f n ≡ (48 + n) ∷ []
dec-small zero n h = refl
dec-small (suc f) n h = rw (lt-ltb n 10 h)

pub dec_large : (f n : ℕ) → 10 ≤ n → dec (suc f) n ≡ dec f (n / 10) ++ ((48 + n % 10) ∷ [])
dec_large f n h = rw (le-ltb n 10 h)

-- two cases: n has one digit, or more
by_ten : {P : Type 0} (n : ℕ) → (n < 10 → P) → (10 ≤ n → P) → P
by_ten n s l = cases (ltb n 10) (λ q. s (ltb-true n 10 q)) (λ q. l (ltb-false n 10 q))

pub length-dec : (f n : ℕ) → length (dec f n) ≤ suc f
length-dec zero n = omega arith
length-dec (suc f) n =
    by_ten n (λ h. rw (dec-small (suc f) n h) (omega arith))
    (λ h. rw (dec_large f n h, length-append) (omega (arith, length-dec f (n / 10))))

-- a numeral stays the same where more digits are allowed than it needs
pub dec-more : (f n : ℕ) → n < 10 ^ suc f → dec f n ≡ dec (suc f) n
dec-more zero n h = sym (dec-small 1 n h)
dec-more (suc f) n h =
    by_ten n (λ s. dec-small (suc f) n s ∙ sym (dec-small (suc (suc f)) n s))
    (λ l.
    rw (
      dec_large f n l,
      dec_large (suc f) n l,
      dec-more f (n / 10) (let q = pow-suc 10 (suc f) in omega arith),
    ))

pub numeral-first : (v : ℕ) → v < 10 → numeral v ≡ (48 + v) ∷ []
unfolding numeral
numeral-first v a = dec-small 8 v a

pub numeral-last : (v : ℕ) → 10 ≤ v → v ≤ written_most → numeral v ≡ numeral (v / 10) ++ ((48 + v % 10) ∷ [])
unfolding numeral
numeral-last v a b = dec_large 7 v a ∙ rw (dec-more 7 (v / 10) (omega arith))

pub length-first : (v : ℕ) → v < 10 → length (numeral v) ≡ 1
length-first v a = rw (numeral-first v a)

pub length_last : (v : ℕ) → 10 ≤ v → v ≤ written_most → length (numeral v) ≡ length (numeral (v / 10)) + 1
length_last v a b = rw (numeral-last v a b, length-append)

pub length_most_lem : (v : ℕ) → length (numeral v) ≤ 9
unfolding numeral
length_most_lem v = length-dec 8 v

-- a number from 10 ^ k to below 10 ^ (k + 1) has k + 1 digits
length_is : (k v : ℕ) → 10 ^ k ≤ v → v < 10 ^ suc k → v ≤ written_most → length (numeral v) ≡ suc k
length_is zero v a b m = length-first v b
length_is (suc k) v a b m =
    let q = pow-suc 10 k in
    let r = pow-suc 10 (suc k) in
    let p : 10 ^ 0 ≤ 10 ^ k = pow-le-pow_right (omega arith) {i = 0} {j = k} (omega arith) in
    let i = length_is k (v / 10) (omega arith) (omega arith) (omega arith) in
    length_last v (omega arith) m ∙ (omega arith)

-- the number of digits, as code finds it: by the powers of ten between which the number lies
pub width-first : (v : ℕ) → v < 10 → 1 ≡ length (numeral v)
width-first v h = sym (length-first v h)

pub width_is : (k v : ℕ) → 10 ^ k ≤ v → v < 10 ^ suc k → v ≤ written_most → suc k ≡ length (numeral v)
width_is k v a b m = sym (length_is k v a b m)

pub width-last : (v : ℕ) → 10 ^ 8 ≤ v → v ≤ written_most → 9 ≡ length (numeral v)
width-last v a m = width_is 8 v a (omega arith) m

-- ---- a numeral is read to its end

module _ {E : Type 0} (K : ℕ → List ℕ → ℕ → LineAnswer E) where
  first : (n : ℕ) (l : List ℕ) (p : ℕ) → 0 < n → n < 10 → numeral_then ((48 + n) ∷ l) p K ≡ more 8 n l (p + 1) K
  first n l p a b =
      let e : 48 + n - 48 ≡ n = omega arith in
      rw (ne_eqb (48 + n) 48 (λ q. omega arith), digit-yes (48 + n) (omega arith) (omega arith), e)

  grow : (f n : ℕ) (l : List ℕ) (p : ℕ) → f ≤ 8 → 0 < n → n < 10 ^ suc f
      → numeral_then (dec f n ++ l) p K ≡ more (9 - length (dec f n)) n l (p + length (dec f n)) K
  grow zero n l p a b c = first n l p b c
  grow (suc f) n l p a b c =
      by_ten n (λ s. rw (dec-small (suc f) n s) (first n l p b s))
      (λ g.
      let q = pow-suc 10 (suc f) in
      let len = length-dec f (n / 10) in
      let k = length (dec f (n / 10)) in
      let e : 9 - k ≡ suc (8 - k) = omega arith in
      let e1 : n / 10 * 10 + (48 + n % 10 - 48) ≡ n = omega arith in
      let e2 : 9 - (k + 1) ≡ 8 - k = omega arith in
      let e3 : p + (k + 1) ≡ p + k + 1 = omega arith in
      rw (
        dec_large f n g,
        append_assoc,
        grow f (n / 10) ((48 + n % 10) ∷ l) p (omega arith) (omega arith) (omega arith),
        e,
        digit-yes (48 + n % 10) (omega arith) (omega arith),
        e1,
        length-append,
        e2,
        e3,
      ))

  -- a byte that is no digit ends the digits
  more-stop : (f v x : ℕ) (l : List ℕ) (p : ℕ) → digit x ≡ false → more f v (x ∷ l) p K ≡ K v (x ∷ l) p
  more-stop zero v x l p h = refl
  more-stop (suc f) v x l p h = rw h

  more-end : (f v p : ℕ) → more f v [] p K ≡ K v [] p
  more-end zero v p = refl
  more-end (suc f) v p = refl

  zero_or : {P : Type 0} (v : ℕ) → (v ≡ 0 → P) → (0 < v → P) → P
  zero_or zero a b = a refl
  zero_or (suc v) a b = b (omega arith)

  -- a numeral is read whole where a byte follows it that is no digit
  pub numeral_then_lem : (v x : ℕ) (l : List ℕ) (p : ℕ) → v ≤ written_most → digit x ≡ false
      → numeral_then (numeral v ++ x ∷ l) p K ≡ K v (x ∷ l) (p + length (numeral v))
  unfolding numeral
  numeral_then_lem v x l p h d =
      zero_or v (λ z. rw z)
      (λ z.
      grow 8 v (x ∷ l) p (omega arith) z (omega arith)
      ∙ more-stop (9 - length (numeral v)) v x l (p + length (numeral v)) d)

-- ---- whatever is read is a numeral

-- r and u are both empty, or both begin with the same byte
abbrev pub Alike : List ℕ → List ℕ → Type 0
Alike [] u = u ≡ []
Alike (x ∷ r) u = (t : List ℕ) × (u ≡ x ∷ t)

-- l begins with the numeral of v, and r is what is left of it: the digits end there, whatever bytes come later
pub record Begun (E : Type 0) (l : List ℕ) : Type 0 where
  pub v : ℕ
  pub r : List ℕ
  pub below : v ≤ written_most
  pub split : l ≡ numeral v ++ r
  pub reads : (K : ℕ → List ℕ → ℕ → LineAnswer E) (p : ℕ) (u : List ℕ) → Alike r u → numeral_then (numeral v ++ u) p K ≡ K v u (p + length (numeral v))

numeral_snoc : (v d : ℕ) → 0 < v → v < 100000000 → d < 10 → numeral (v * 10 + d) ≡ numeral v ++ ((48 + d) ∷ [])
unfolding numeral
numeral_snoc v d a b c =
    let e : (v * 10 + d) / 10 ≡ v = omega arith in
    let e1 : (v * 10 + d) % 10 ≡ d = omega arith in
    rw (dec_large 7 (v * 10 + d) (omega arith), e, e1, dec-more 7 v b)

-- a number below a power of ten is below every greater one
pub fewer : (k j v : ℕ) → k ≤ j → v < 10 ^ k → v < 10 ^ j
fewer k j v h a = let q : 10 ^ k ≤ 10 ^ j = pow-le-pow_right (omega arith) h in omega arith

-- k digits are read and their value is v; up to f more may follow
begun : {E : Type 0} (f k v : ℕ) (l : List ℕ) → k + f ≡ 9 → 0 < v → v < 10 ^ k → length (numeral v) ≡ k → Begun E (numeral v ++ l)
unfolding numeral
begun {E} zero k v l s a b c =
    let h : v < 1000000000 = fewer k 9 v (omega arith) b in
    let z : 9 - length (numeral v) ≡ 0 = omega arith in
    record {
      v = v;
      r = l;
      below = omega arith;
      split = refl;
      reads = λ K p u q. grow K 8 v u p (omega arith) a h ∙ rw z;
    }
begun {E} (suc f) k v [] s a b c =
    let h : v < 1000000000 = fewer k 9 v (omega arith) b in
    record {
      v = v;
      r = [];
      below = omega arith;
      split = refl;
      reads = λ K p u q. rw q (grow K 8 v [] p (omega arith) a h ∙ more-end K (9 - length (numeral v)) v (p + length (numeral v)));
    }
begun {E} (suc f) k v (x ∷ l) s a b c =
    let h : v < 1000000000 = fewer k 9 v (omega arith) b in
    let h8 : v < 100000000 = fewer k 8 v (omega arith) b in
    cases (digit x)
    (λ y.
    let ran = digit-range x y in
    let e : 48 + (x - 48) ≡ x = omega arith in
    let n = numeral_snoc v (x - 48) a h8 (omega arith) in
    let n' : numeral (v * 10 + (x - 48)) ++ l ≡ numeral v ++ x ∷ l = rw (n, append_assoc, e) in
    let q = pow-suc 10 k in
    let len : length (numeral (v * 10 + (x - 48))) ≡ suc k = rw (n, length-append) (omega arith) in
    rw n' at (begun {E = E} f (suc k) (v * 10 + (x - 48)) l (omega arith) (omega arith) (omega arith) len))
    (λ y.
    record {
      v = v;
      r = x ∷ l;
      below = omega arith;
      split = refl;
      reads = λ K p u q. rw q.1 (grow K 8 v (x ∷ q.0) p (omega arith) a h ∙ more-stop K (9 - length (numeral v)) v x q.0 (p + length (numeral v)) y);
    })

-- the bytes are none, or begin with no digit, or begin with a numeral
pub number_cases : {E P : Type 0} (l : List ℕ)
    → (l ≡ [] → P)
    → ((x : ℕ) (t : List ℕ) → l ≡ x ∷ t → eqb x 48 ≡ false → digit x ≡ false → P)
    → (Begun E l → P)
    → P
unfolding numeral
number_cases [] a b c = a refl
number_cases {E} (x ∷ l) a b c =
    cases (eqb x 48)
    (λ y. c (record { v = 0; r = l; below = omega arith; split = rw (eqb-true x 48 y); reads = λ K p u q. refl }))
    (λ n.
    cases (digit x)
    (λ y.
    let ran = digit-range x y in
    let no = eqb-false x 48 n in
    let pos : 0 < x - 48 = omega arith in
    let e : 48 + (x - 48) ≡ x = omega arith in
    let d = dec-small 8 (x - 48) (omega arith) in
    let d' : numeral (x - 48) ++ l ≡ x ∷ l = rw (d, e) in
    c (rw d' at (begun {E = E} 8 1 (x - 48) l refl pos (omega arith) (rw d))))
    (λ m. b x l refl n m))
