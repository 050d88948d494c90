-- The reader that goes by a grammar answers what code finds piece by piece; and the turns of the two loops over bytes.
use Prim.Native.Nat.{ℕ, zero, suc, ◌+◌, ◌-◌, ◌*◌, ◌^◌, ◌≤◌, ◌<◌, min}
use native.Mathlib.Nat.{pow-suc}
use native.Mathlib.Numerals.{add-one}
use native.Mathlib.Omega.{arith}
use mathlib.Core.Path.{◌≡◌, refl, sym, ap, ◌∙◌}
use mathlib.Core.Bool.{true, false, cond}
use mathlib.Core.List.{List, [], ◌∷◌}
use lib.ListN.{length, get_or, take, drop, length-take, length-drop, drop_of_length-le}
use lib.Seq.{drop-cons}
use lib.Dec.{eqb, leb}
use borrow.Author.Tests.{eq-eqb, ne_eqb, leb-true, leb-false}
use Rattle.std.proofs.lemmas.List.{get_or-take, get_or-drop}
use Rattle.terms.proofs.Logic.{cases}
use Rattle.std.specs.Prelude.{Result, Ok, Err}
use Rattle.std.proofs.lemmas.Bool.Decides.{nat_tests}
use Rattle.lines_text_law.specs.declared.LineError.{LineError}
use Rattle.lines_text_law.specs.declared.Parsed.{Parsed}
use Rattle.lines_text_law.specs.Text.{bytes}
use Rattle.lines_text_law.specs.Grammar.{Grammar, stop, byte, either, number, word, LineAnswer, whole, wrong, digit, more, look}
use Rattle.lines_text_law.specs.Reading.{failed}
use Rattle.lines_text_law.specs.code.Pieces.{at, parsed, byte_on, word_on, more_on, number_on, then_number, field_on, end_after, then_end, last_on, lastly}
use Rattle.lines_text_law.proofs.Digits.{digit-range, fewer}

-- the bytes from place n on are none, or the byte there and the bytes behind it
rest_cases : {P : Type 0} (s : List ℕ) (n : ℕ) → (drop n s ≡ [] → P) → (drop n s ≡ get_or s n 0 ∷ drop (n + 1) s → P) → P
rest_cases {P} s n a b = go (drop n s) refl
  where
    go : (l : List ℕ) → drop n s ≡ l → P
    go [] e = a e
    go (x ∷ l) e =
        let len : length s - n ≡ suc (length l) = sym (length-drop n s) ∙ ap length e in
        b (rw add-one (drop-cons s n 0 (omega arith)))

-- what is known of the bytes left, where a byte was found or none
byte-there : (s : List ℕ) (n b : ℕ) → byte_on (drop n s) ≡ Ok b → drop n s ≡ b ∷ drop (n + 1) s
byte-there s n b q =
    rest_cases s n (λ e. let y = rw e at q in let z : ◌≡◌ {A = ℕ} 0 1 = cc in let w : ⊥ = omega arith in absurd w)
    (λ e. let y : get_or s n 0 ≡ b = (let k = rw e at q in cc) in rw y at e)

found_there : (s : List ℕ) (n b : ℕ) (r : Result ℕ LineError) → r ≡ byte_on (drop n s) → r ≡ Ok b → drop n s ≡ b ∷ drop (n + 1) s
found_there s n b r found it = byte-there s n b (sym found ∙ it)

-- ---- pieces

pub at-stop : {E : Type 0} (s : List ℕ) (e : E) (n : ℕ) → at s (stop e) n ≡ whole e n
unfolding at
at-stop s e n = refl

-- how reading goes on behind a piece
abbrev pub after : {A E : Type 0} → Result A LineError → (A → LineAnswer E) → LineAnswer E
after (Ok x) k = k x
after (Err e) k = failed e

module _ {E : Type 0} (s : List ℕ) where
  -- reading goes on behind a number by its value
  abbrev pub goes_on : (ℕ → Grammar E) → Parsed ℕ → LineAnswer E
  goes_on g p = at s (g p.value) p.next

  pub at-word : (w : List ℕ) (g : Grammar E) (n : ℕ) → at s (word w g) n ≡ after (word_on w (drop n s) n) (at s g)
  unfolding at word
  at-word [] g n = refl
  at-word (b ∷ w) g n =
      rest_cases s n (λ e. rw e)
      (λ e. cases (eqb (get_or s n 0) b) (λ y. rw (e, y) (at-word w g (n + 1))) (λ y. rw (e, y)))

  at_more : (f v n : ℕ) (g : ℕ → Grammar E) → more f v (drop n s) n (λ u l m. look (g u) l m) ≡ goes_on g (more_on f v (drop n s) n)
  unfolding at
  at_more zero v n g = refl
  at_more (suc f) v n g =
      rest_cases s n (λ e. rw e (sym (rw e)))
      (λ e.
      cases (digit (get_or s n 0))
      (λ y. rw (e, y) (at_more f (v * 10 + (get_or s n 0 - 48)) (n + 1) g))
      (λ y. rw (e, y) (sym (rw e))))

  pub at-number : (g : ℕ → Grammar E) (n : ℕ) → at s (number g) n ≡ after (number_on (drop n s) n) (goes_on g)
  unfolding at
  at-number g n =
      rest_cases s n (λ e. rw e)
      (λ e.
      cases (eqb (get_or s n 0) 48)
      (λ y. rw (e, y))
      (λ y.
      cases (digit (get_or s n 0))
      (λ d. rw (e, y, d) (at_more 8 (get_or s n 0 - 48) (n + 1) g))
      (λ d. rw (e, y, d))))

  pub at_field : (w : List ℕ) (g : ℕ → Grammar E) (n : ℕ) → at s (word w (number g)) n ≡ after (field_on w s n) (goes_on g)
  unfolding field_on
  at_field w g n = at-word w (number g) n ∙ go (word_on w (drop n s) n)
    where
      go : (l : Result ℕ LineError) → after l (at s (number g)) ≡ after (then_number s l) (goes_on g)
      go (Ok m) = at-number g m
      go (Err e) = refl

  pub at_last : (w : List ℕ) (f : ℕ → E) (n : ℕ) → at s (lastly w f) n ≡ after (last_on w s n) (λ p. whole (f p.value) p.next)
  unfolding last_on lastly
  at_last w f n = at_field w (λ v. word (bytes "\n") (stop (f v))) n ∙ go (field_on w s n)
    where
      end : (v : ℕ) (l : Result ℕ LineError) → after l (at s (stop (f v))) ≡ after (end_after v l) (λ p. whole (f p.value) p.next)
      end v (Ok m) = at-stop s (f v) m
      end v (Err e) = refl

      go : (l : Result (Parsed ℕ) LineError)
          → after l (λ p. at s (word (bytes "\n") (stop (f p.value))) p.next) ≡ after (then_end s l) (λ p. whole (f p.value) p.next)
      go (Ok p) = at-word (bytes "\n") (stop (f p.value)) p.next ∙ end p.value (word_on (bytes "\n") (drop p.next s) p.next)
      go (Err e) = refl

  -- a choice is decided by the byte at its place
  pub at-either : (b : ℕ) (g h : Grammar E) (n : ℕ)
      → at s (either b g h) n ≡ after (byte_on (drop n s)) (λ x. cond (eqb x b) (at s g (n + 1)) (at s h n))
  unfolding at
  at-either b g h n =
      rest_cases s n (λ e. rw e)
      (λ e. cases (eqb (get_or s n 0) b) (λ y. rw (e, y)) (λ y. rw (e, y)))

  pub at-byte : (b : ℕ) (g : Grammar E) (n : ℕ) → at s (byte b g) n ≡ after (byte_on (drop n s)) (λ x. cond (eqb x b) (at s g (n + 1)) (wrong n))
  unfolding at
  at-byte b g n =
      rest_cases s n (λ e. rw e)
      (λ e. cases (eqb (get_or s n 0) b) (λ y. rw (e, y)) (λ y. rw (e, y)))

-- Rules for `grind` at a reader's `return`: what a grammar answers, by what the code found.
pub ruleset reading = (nat_tests, at-stop, at-word, at_field, at_last, at-either, at-byte)

-- ---- the loop over a word's bytes: o is what the whole word comes to, which is what the bytes left of it come to, and r found byte b

pub word_turn : (w s : List ℕ) (i p b : ℕ) (o r : Result ℕ LineError) → o ≡ word_on (drop i w) (drop p s) p → i < length w → r ≡ byte_on (drop p s) → r ≡ Ok b →
    b ≡ get_or w i 0 → o ≡ word_on (drop (i + 1) w) (drop (p + 1) s) (p + 1)
word_turn w s i p b o r rest more found it n =
    rest ∙ rw (drop-cons w i 0 more, found_there s p b r found it, eq-eqb b (get_or w i 0) n, add-one i)

-- ---- the loop over the further digits

-- A number is being read from place n on: o is what the whole comes to, v the value of its first digit and of i more, p the place after them.
pub record Digits (s : List ℕ) (n : ℕ) (o : Result (Parsed ℕ) LineError) (v p i : ℕ) : Type 0 where
  pub place : p ≡ n + 1 + i
  pub few : i ≤ 8
  pub short : v < 10 ^ (i + 1)
  pub small : v < 10 ^ 9
  pub rest : o ≡ Ok (more_on (8 - i) v (drop p s) p)

-- behind the first digit, b, which is worth v
pub digits_start : (s : List ℕ) (n : ℕ) (r : Result ℕ LineError) (b v : ℕ) → r ≡ byte_on (drop n s) → r ≡ Ok b → (b ≡ 48 → ⊥) → digit b ≡ true → v ≡ b - 48 →
    Digits s n (number_on (drop n s) n) v (n + 1) 0
digits_start s n r b v found it z e worth =
    let ran = digit-range b e in
    record {
      place = omega arith;
      few = omega arith;
      short = omega arith;
      small = omega arith;
      rest = rw (found_there s n b r found it, ne_eqb b 48 z, e, worth);
    }

-- the bytes that the loop goes over: m of those behind the first digit
abbrev part : List ℕ → ℕ → ℕ → List ℕ
part s n m = take m (take (length s - (n + 1)) (drop (n + 1) s))

part-length : (s : List ℕ) (n m : ℕ) → length (part s n m) ≡ min m (length s - (n + 1))
part-length s n m = simp (length-take, length-drop) (omega arith)

part-item : (s : List ℕ) (n m i : ℕ) → i < length (part s n m) → get_or (part s n m) i 0 ≡ get_or s (n + 1 + i) 0
part-item s n m i h =
    let k : i < m = omega (arith, part-length s n m) in
    let j : i < length s - (n + 1) = omega (arith, part-length s n m) in
    get_or-take m (take (length s - (n + 1)) (drop (n + 1) s)) i 0 k
    ∙ (get_or-take (length s - (n + 1)) (drop (n + 1) s) i 0 j ∙ get_or-drop (n + 1) s i 0)

module _ (s : List ℕ) (n m v p i : ℕ) (o : Result (Parsed ℕ) LineError) (at : Digits s n o v p i) (few : m ≡ min (length (take (length s - (n + 1)) (drop (n + 1) s))) 8) where
  stops : (f : ℕ) → 8 - i ≡ f → more_on f v (drop p s) p ≡ parsed v p → Ok (parsed v p) ≡ o
  stops f e q = sym (at.rest ∙ ap Ok (rw e q))

  -- the bytes or the digits are at an end
  pub digits-end : length (part s n m) ≤ i → Ok (parsed v p) ≡ o
  digits-end h =
      cases (leb 8 i)
      (λ y. stops 0 (let k = leb-true 8 i y in omega arith) refl)
      (λ y.
      let k = leb-false 8 i y in
      let j : length s ≤ p = omega (arith, part-length s n m, at.place, length-take (length s - (n + 1)) (drop (n + 1) s), length-drop (n + 1) s) in
      stops (8 - i) refl (go (8 - i) j))
    where
      go : (f : ℕ) → length s ≤ p → more_on f v (drop p s) p ≡ parsed v p
      go zero j = refl
      go (suc f) j = rw (drop_of_length-le s j)

  module _ (there : i < length (part s n m)) where
    abbrev d : ℕ
    d = get_or (part s n m) i 0

    below : p < length s
    below = omega (arith, part-length s n m, at.place)

    seven : i < 8
    seven = omega (arith, part-length s n m, few, length-take (length s - (n + 1)) (drop (n + 1) s), length-drop (n + 1) s)

    item : get_or s p 0 ≡ d
    item = sym (part-item s n m i there ∙ ap (λ (x : ℕ). get_or s x 0) (sym at.place))

    -- the next byte is no digit
    pub digits-stop : digit d ≡ false → Ok (parsed v p) ≡ o
    digits-stop e = stops (suc (7 - i)) (omega (arith, seven)) (rw (drop-cons s p 0 below, item, e))

    -- or it is one, worth w
    pub digits_turn : (w : ℕ) → w ≡ d - 48 → digit d ≡ true → Digits s n o (v * 10 + w) (p + 1) (i + 1)
    digits_turn w worth e =
        let ran = digit-range d e in
        let one : i + 1 + 1 ≡ suc (i + 1) = omega arith in
        let grown : v * 10 + w < 10 ^ (i + 1 + 1) = rw one (omega (arith, pow-suc 10 (i + 1), at.short)) in
        record {
          place = omega (arith, at.place);
          few = omega (arith, seven);
          short = grown;
          small = fewer (i + 1 + 1) 9 (v * 10 + w) (omega (arith, seven)) grown;
          rest =
              at.rest
              ∙ (let k : 8 - i ≡ suc (8 - (i + 1)) = omega (arith, seven) in ap Ok (rw (k, drop-cons s p 0 below, item, e, add-one p, worth)));
        }
