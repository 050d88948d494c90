-- Marking a number in the map marks that number and no other.
use Prim.Native.Nat.{ℕ, zero, suc, ◌+◌, ◌*◌, ◌/◌, ◌%◌, ◌^◌, ◌<◌}
use native.Mathlib.Omega.{arith}
use native.Mathlib.Nat.{mul-div-mul_left, pow-succ', div_self, div-eq_of_lt, mod-lt, div-one, mul-mod_right, one-mul, zero-div}
use mathlib.Core.Bool.{Bool, true, false, ◌||◌}
use mathlib.Core.Path.{◌≡◌, refl, sym, ap, ◌∙◌}
use mathlib.Core.List.{List}
use lib.Dec.{eqb, lit<}
use lib.Pow.{pow_pos, pow-lt, shl_exact}
use lib.Bits.{bit_or, or_shr, or_mod, or_zero_r}
use lib.ListN.{length, get_or, replicate}
use lib.Seq.{get_or-set_same, get_or-set_other}
use borrow.Author.Tests.{eqb-true, eqb-false}
use Rattle.book_sound_law.specs.code.Marks.{bit_of, with_bit, word_for, bit_for, has_mark, with_mark}

-- ---- a power of two has one bit

pow_same : (j : ℕ) → 2 ^ j / 2 ^ j % 2 ≡ 1
pow_same j = rw (div_self (pow_pos j))

pow_other : (j i : ℕ) → (j ≡ i → ⊥) → 2 ^ j / 2 ^ i % 2 ≡ 0
pow_other zero zero ne = absurd (ne refl)
pow_other zero (suc i) ne = rw (div-eq_of_lt (pow-lt {i = 0} {j = suc i} (omega arith)))
pow_other (suc j) zero ne = rw (div-one (2 ^ suc j), pow-succ' 2 j) (mul-mod_right 2 (2 ^ j))
pow_other (suc j) (suc i) ne = rw (pow-succ' 2 j, pow-succ' 2 i, mul-div-mul_left {m = 2} (2 ^ j) (2 ^ i) (omega arith)) (pow_other j i (λ e. ne (ap suc e)))

-- ---- setting a bit in a word sets that bit and changes no other

shifted : (b : ℕ) → b < 64 → (1 * 2 ^ b) % 2 ^ 64 ≡ 2 ^ b
shifted b h = shl_exact {a = 1} 1 b 64 (lit< tt) (omega arith) ∙ one-mul (2 ^ b)

or_one : (p : ℕ) → p < 2 → bit_or p 1 ≡ 1
or_one zero h = refl
or_one (suc zero) h = refl
or_one (suc (suc p)) h = absurd (omega arith)

module _ (w b i : ℕ) (h : b < 64) where
  with_at : with_bit w b / 2 ^ i % 2 ≡ bit_or (w / 2 ^ i % 2) (2 ^ b / 2 ^ i % 2)
  with_at = rw (shifted b h, or_shr w (2 ^ b) i) (or_mod (w / 2 ^ i) (2 ^ b / 2 ^ i) 1)

  with_same : b ≡ i → bit_of (with_bit w b) i ≡ true
  with_same e = rw (with_at, e, pow_same i, or_one (w / 2 ^ i % 2) (mod-lt (w / 2 ^ i) (lit< tt)))

  with_other : (b ≡ i → ⊥) → bit_of (with_bit w b) i ≡ bit_of w i
  with_other ne = rw (with_at, pow_other b i ne, or_zero_r (w / 2 ^ i % 2))

-- ---- a number marked in a map

-- word and bit together determine the number
made : (x : ℕ) → x ≡ x / 1024 * 1024 + (bit_for x * 16 + x % 16)
made x = omega arith

parts : (a b r s : ℕ) → r < 16 → s < 16 → a * 16 + r ≡ b * 16 + s → (a ≡ b) × (r ≡ s)
parts a b r s h k e = (omega arith, omega arith)

told : (x y : ℕ) → word_for x ≡ word_for y → bit_for x ≡ bit_for y → x ≡ y
told x y q r =
    let p = parts (x / 1024) (y / 1024) (x % 16) (y % 16) (mod-lt x (lit< tt)) (mod-lt y (lit< tt)) q in
    made x ∙ (λ i. p.0 i * 1024 + (r i * 16 + p.1 i)) ∙ sym (made y)

bit_small : (x : ℕ) → bit_for x < 64
bit_small x = omega arith

module _ (m : List ℕ) (x y : ℕ) (h : word_for x < length m) where
  in_word : word_for x ≡ word_for y → get_or (with_mark m x) (word_for y) 0 ≡ with_bit (get_or m (word_for x) 0) (bit_for x)
  in_word e = rw (← e) (get_or-set_same m (word_for x) (with_bit (get_or m (word_for x) 0) (bit_for x)) 0 h)

  mark_by_lem : (b c : Bool) → eqb y x ≡ b → eqb (word_for x) (word_for y) ≡ c → has_mark (with_mark m x) y ≡ (b || has_mark m y)
  mark_by_lem true c e f =
      let q : x ≡ y = sym (eqb-true y x e) in
      rw (in_word (ap word_for q)) (with_same (get_or m (word_for x) 0) (bit_for x) (bit_for y) (bit_small x) (ap bit_for q))
  mark_by_lem false true e f =
      let q : word_for x ≡ word_for y = eqb-true (word_for x) (word_for y) f in
      let ne : y ≡ x → ⊥ = eqb-false y x e in
      rw (in_word q) (with_other (get_or m (word_for x) 0) (bit_for x) (bit_for y) (bit_small x) (λ r. ne (sym (told x y q r))) ∙ rw q)
  mark_by_lem false false e f =
      rw (get_or-set_other m (word_for x) (word_for y) (with_bit (get_or m (word_for x) 0) (bit_for x)) 0 (λ q. eqb-false (word_for x) (word_for y) f (sym q)))

pub mark-tells : (m : List ℕ) (x y : ℕ) → word_for x < length m → has_mark (with_mark m x) y ≡ (eqb y x || has_mark m y)
mark-tells m x y h = mark_by_lem m x y h (eqb y x) (eqb (word_for x) (word_for y)) refl refl

zeros : (k x : ℕ) → ◌≡◌ {A = ℕ} (get_or (replicate k 0) x 0) 0
zeros zero x = refl
zeros (suc k) zero = refl
zeros (suc k) (suc x) = zeros k x

pub no_marks : (words x : ℕ) → has_mark (replicate words 0) x ≡ false
no_marks words x = rw (zeros words (word_for x), zero-div (2 ^ bit_for x))
