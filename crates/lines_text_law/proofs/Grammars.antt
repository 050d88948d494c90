-- The laws of grammars: a line that a grammar spells is read back, and every answer of the reader has its reason.
use Prim.Native.Nat.{ℕ, suc, ◌+◌, ◌≤◌}
use native.Mathlib.Nat.{add-zero, add_assoc}
use native.Mathlib.Omega.{arith}
use mathlib.Core.Path.{◌≡◌, refl, sym, ap, ◌∙◌, subst}
use mathlib.Core.Bool.{false}
use mathlib.Core.List.{List, [], ◌∷◌, ◌++◌, append_assoc}
use lib.ListN.{length, length-append}
use lib.Dec.{eqb}
use borrow.Author.Tests.{eq-eqb, eqb-true}
use Rattle.terms.specs.Sizes.{written_most}
use Rattle.terms.proofs.Logic.{cases}
use Rattle.lines_text_law.specs.Text.{bytes}
use Rattle.lines_text_law.specs.Numerals.{numeral}
use Rattle.lines_text_law.specs.Grammar.{Grammar, stop, byte, either, number, word, LineAnswer, whole, wrong, unfinished, digit, look}
use Rattle.lines_text_law.specs.code.Pieces.{lastly}
use Rattle.lines_text_law.proofs.Digits.{numeral_then_lem, Alike, Begun, number_cases}

-- by the grammar g, bs is the line of e
pub data Spells {E : Type 0} : Grammar E → E → List ℕ → Type 0 where
  s_stop : {e : E} → Spells (stop e) e []
  s_byte : {b : ℕ} {g : Grammar E} {e : E} {bs : List ℕ} → Spells g e bs → Spells (byte b g) e (b ∷ bs)
  s_this : {b : ℕ} {g h : Grammar E} {e : E} {bs : List ℕ} → Spells g e bs → Spells (either b g h) e (b ∷ bs)
  s_else : {b : ℕ} {g h : Grammar E} {e : E} {bs : List ℕ} → Spells h e bs → Spells (either b g h) e bs
  s_number : {g : ℕ → Grammar E} {e : E} {bs : List ℕ} (v : ℕ) → v ≤ written_most → Spells (g v) e bs → Spells (number g) e (numeral v ++ bs)

next_place : (p n : ℕ) → p + 1 + n ≡ p + suc n
next_place p n = omega arith

module _ {E : Type 0} where
  -- every line of the grammar starts with a byte other than b
  abbrev pub Misses : ℕ → Grammar E → Type 0
  Misses b (stop e) = ⊥
  Misses b (byte c g) = eqb c b ≡ false
  Misses b (either c g h) = (eqb c b ≡ false) × Misses b h
  Misses b (number g) = ⊥

  -- every line of the grammar starts with the same byte, which is no digit
  abbrev pub Parts : Grammar E → Type 0
  Parts (stop e) = ⊥
  Parts (byte c g) = digit c ≡ false
  Parts (either c g h) = ⊥
  Parts (number g) = ⊥

  -- at each place at most one way is open: the two ways of a choice start with different bytes, and no digit follows a number
  abbrev pub Plain : Grammar E → Type 0
  Plain (stop e) = Unit
  Plain (byte b g) = Plain g
  Plain (either b g h) = Misses b h × Plain g × Plain h
  Plain (number g) = (v : ℕ) → Parts (g v) × Plain (g v)

  missed : (b : ℕ) {h : Grammar E} {e : E} {bs : List ℕ} → Misses b h → Spells h e bs → (x : ℕ) × (t : List ℕ) × (bs ≡ x ∷ t) × (eqb x b ≡ false)
  missed b m s_stop = absurd m
  missed b m (s_byte {b = c} {bs = bs} s) = (c, bs, refl, m)
  missed b m (s_this {b = c} {bs = bs} s) = (c, bs, refl, m.0)
  missed b m (s_else s) = missed b m.1 s
  missed b m (s_number v h s) = absurd m

  parted : {h : Grammar E} {e : E} {bs : List ℕ} → Parts h → Spells h e bs → (x : ℕ) × (t : List ℕ) × (bs ≡ x ∷ t) × (digit x ≡ false)
  parted m s_stop = absurd m
  parted m (s_byte {b = c} {bs = bs} s) = (c, bs, refl, m)
  parted m (s_this s) = absurd m
  parted m (s_else s) = absurd m
  parted m (s_number v h s) = absurd m

  this : (b : ℕ) (g : Grammar E) (u : List ℕ) (p : ℕ) → look (byte b g) (b ∷ u) p ≡ look g u (p + 1)
  this b g u p = rw (eq-eqb b b refl)

  that : (b : ℕ) (g h : Grammar E) (u : List ℕ) (p : ℕ) → look (either b g h) (b ∷ u) p ≡ look g u (p + 1)
  that b g h u p = rw (eq-eqb b b refl)

  other : (b : ℕ) (g h : Grammar E) (x : ℕ) (u l : List ℕ) (p : ℕ) → l ≡ x ∷ u → eqb x b ≡ false → look (either b g h) l p ≡ look h l p
  other b g h x u l p q n = rw (q, n)

  after : (g : ℕ → Grammar E) (v x : ℕ) (u l : List ℕ) (p : ℕ) → l ≡ x ∷ u → digit x ≡ false → v ≤ written_most
      → look (number g) (numeral v ++ l) p ≡ look (g v) l (p + length (numeral v))
  after g v x u l p q d h = rw q (numeral_then_lem (λ w t n. look (g w) t n) v x u p h d)

  -- what is spelled is read back, whatever bytes follow
  pub back : {g : Grammar E} {e : E} {bs : List ℕ} → Plain g → Spells g e bs → (r : List ℕ) (p : ℕ) → look g (bs ++ r) p ≡ whole e (p + length bs)
  back o s_stop r p = rw add-zero
  back o (s_byte {b = b} {g = g} {bs = bs} s) r p = this b g (bs ++ r) p ∙ back o s r (p + 1) ∙ rw (next_place p (length bs))
  back o (s_this {b = b} {g = g} {h = h} {bs = bs} s) r p = that b g h (bs ++ r) p ∙ back o.1 s r (p + 1) ∙ rw (next_place p (length bs))
  back o (s_else {b = b} {g = g} {h = h} {bs = bs} s) r p =
      let m = missed b o.0 s in
      other b g h m.0 (m.1 ++ r) (bs ++ r) p (ap (λ (z : List ℕ). z ++ r) m.2) m.3 ∙ back o.2 s r p
  back o (s_number {g = g} {e = e} {bs = bs} v h s) r p =
      let m = parted (o v).0 s in
      rw (append_assoc, length-append, ← add_assoc)
      (after g v m.0 (m.1 ++ r) (bs ++ r) p (ap (λ (z : List ℕ). z ++ r) m.2) m.3 h
      ∙ back (o v).1 s r (p + length (numeral v)))

  -- every grammar spells some line
  some : (g : Grammar E) → (e : E) × (bs : List ℕ) × Spells g e bs
  some (stop e) = (e, [], s_stop)
  some (byte b g) = let s = some g in (s.0, b ∷ s.1, s_byte s.2)
  some (either b g h) = let s = some g in (s.0, b ∷ s.1, s_this s.2)
  some (number g) = let s = some (g 0) in (s.0, numeral 0 ++ s.1, s_number 0 (omega arith) s.2)

-- The reason for an answer about the bytes l: a line stands at their start; or they begin one; or a part a of them begins one, and after a
-- the byte x is wrong, whatever comes later.
pub data Seen {E : Type 0} (g : Grammar E) (l : List ℕ) (p : ℕ) : LineAnswer E → Type 0 where
  was_whole : (e : E) (m : ℕ) (bs r : List ℕ) → Spells g e bs → l ≡ bs ++ r → m ≡ p + length bs → Seen g l p (whole e m)
  was_unfinished : (e : E) (t : List ℕ) → Spells g e (l ++ t) → Seen g l p unfinished
  was_wrong : (m : ℕ) (a : List ℕ) (x : ℕ) (z : List ℕ) → l ≡ a ++ x ∷ z → m ≡ p + length a → (e : E) (t : List ℕ) → Spells g e (a ++ t)
      → ((u : List ℕ) → look g (a ++ x ∷ u) p ≡ wrong m) → Seen g l p (wrong m)

alike : (a : List ℕ) (x : ℕ) (z u : List ℕ) → Alike (a ++ x ∷ z) (a ++ x ∷ u)
alike [] x z u = (u, refl)
alike (y ∷ a) x z u = (a ++ x ∷ u, refl)

same : (l : List ℕ) → Alike l l
same [] = refl
same (x ∷ l) = (l, refl)

module _ {E : Type 0} where
  -- the reason behind one byte is a reason with it
  front : (f g : Grammar E) (b : ℕ)
      → ((e : E) (bs : List ℕ) → Spells g e bs → Spells f e (b ∷ bs))
      → ((u : List ℕ) (p : ℕ) → look f (b ∷ u) p ≡ look g u (p + 1))
      → (l : List ℕ) (p : ℕ) {o : LineAnswer E} → Seen g l (p + 1) o → Seen f (b ∷ l) p o
  front f g b c k l p (was_whole e m bs r s q n) = was_whole e m (b ∷ bs) r (c e bs s) (rw q) (omega arith)
  front f g b c k l p (was_unfinished e t s) = was_unfinished e t (c e (l ++ t) s)
  front f g b c k l p (was_wrong m a x z q n e t s w) =
      was_wrong m (b ∷ a) x z (rw q) (omega arith) e t (c e (a ++ t) s) (λ u. k (a ++ x ∷ u) p ∙ w u)

  -- the reason for the other way of a choice is one for the choice
  beside : (b : ℕ) (g h : Grammar E) (y : ℕ) (l : List ℕ) (p : ℕ) → eqb y b ≡ false → {o : LineAnswer E} → Seen h (y ∷ l) p o → Seen (either b g h) (y ∷ l) p o
  beside b g h y l p v (was_whole e m bs r s q n) = was_whole e m bs r (s_else s) q n
  beside b g h y l p v (was_unfinished e t s) = was_unfinished e t (s_else s)
  beside b g h y l p v (was_wrong m [] x z q n e t s w) =
      was_wrong m [] x z q n e t (s_else s) (λ u. other b g h x u (x ∷ u) p refl (let i : y ≡ x = cc in rw i at v) ∙ w u)
  beside b g h y l p v (was_wrong m (c ∷ a) x z q n e t s w) =
      was_wrong m (c ∷ a) x z q n e t (s_else s)
      (λ u. other b g h c (a ++ x ∷ u) (c ∷ (a ++ x ∷ u)) p refl (let i : y ≡ c = cc in rw i at v) ∙ w u)

  -- the reason behind a numeral is a reason with it
  behind : (g : ℕ → Grammar E) (l : List ℕ) (k : Begun E l) (p : ℕ) {o : LineAnswer E} → Seen (g k.v) k.r (p + length (numeral k.v)) o → Seen (number g) l p o
  behind g l k p (was_whole e m bs r s q n) =
      was_whole e m (numeral k.v ++ bs) r (s_number k.v k.below s)
      (k.split ∙ ap (λ (z : List ℕ). numeral k.v ++ z) q ∙ sym (append_assoc (numeral k.v) bs r))
      (n ∙ rw (length-append, ← add_assoc))
  behind g l k p (was_unfinished e t s) =
      was_unfinished e t
      (subst (λ (z : List ℕ). Spells (number g) e z)
      (sym (append_assoc (numeral k.v) k.r t) ∙ ap (λ (z : List ℕ). z ++ t) (sym k.split))
      (s_number k.v k.below s))
  behind g l k p (was_wrong m a x z q n e t s w) =
      was_wrong m (numeral k.v ++ a) x z
      (k.split ∙ ap (λ (y : List ℕ). numeral k.v ++ y) q ∙ sym (append_assoc (numeral k.v) a (x ∷ z)))
      (n ∙ rw (length-append, ← add_assoc)) e t
      (subst (λ (y : List ℕ). Spells (number g) e y) (sym (append_assoc (numeral k.v) a t)) (s_number k.v k.below s))
      (λ u.
      rw append_assoc
      (k.reads (λ v r j. look (g v) r j) p (a ++ x ∷ u) (subst (λ (y : List ℕ). Alike y (a ++ x ∷ u)) (sym q) (alike a x z u))
      ∙ w u))

  -- every answer has its reason
  pub see : (g : Grammar E) (l : List ℕ) (p : ℕ) → Seen g l p (look g l p)
  see (stop e) l p = was_whole e p [] l s_stop refl (omega arith)
  see (byte b g) [] p = let s = some g in was_unfinished s.0 (b ∷ s.1) (s_byte s.2)
  see (byte b g) (x ∷ l) p =
      cases (eqb x b)
      (λ y. rw (y, eqb-true x b y) (front (byte b g) g b (λ e bs s. s_byte s) (this b g) l p (see g l (p + 1))))
      (λ y. rw y (let s = some g in was_wrong p [] x l refl (omega arith) s.0 (b ∷ s.1) (s_byte s.2) (λ u. rw y)))
  see (either b g h) [] p = let s = some g in was_unfinished s.0 (b ∷ s.1) (s_this s.2)
  see (either b g h) (x ∷ l) p =
      cases (eqb x b)
      (λ y. rw (y, eqb-true x b y) (front (either b g h) g b (λ e bs s. s_this s) (that b g h) l p (see g l (p + 1))))
      (λ y. rw y (beside b g h x l p y (see h (x ∷ l) p)))
  see (number g) l p =
      number_cases {E = E} l
      (λ q. rw q (let s = some (g 0) in was_unfinished s.0 (numeral 0 ++ s.1) (s_number 0 (omega arith) s.2)))
      (λ x t q n d.
      rw (q, n, d)
      (let s = some (g 0) in
      was_wrong p [] x t refl (omega arith) s.0 (numeral 0 ++ s.1) (s_number 0 (omega arith) s.2) (λ u. rw (n, d))))
      (λ k.
      let r : look (number g) l p ≡ look (g k.v) k.r (p + length (numeral k.v)) =
      ap (λ (z : List ℕ). look (number g) z p) k.split ∙ k.reads (λ v r j. look (g v) r j) p k.r (same k.r) in
      rw r (behind g l k p (see (g k.v) k.r (p + length (numeral k.v)))))

-- ---- how to show which lines a grammar spells, with one equation for each of its ends

module _ {E : Type 0} where
  -- a word is spelled before what the rest spells
  pub s_word : (w : List ℕ) {g : Grammar E} {e : E} {bs : List ℕ} → Spells g e bs → Spells (word w g) e (w ++ bs)
  unfolding word
  s_word [] s = s
  s_word (b ∷ w) s = s_byte (s_word w s)

  -- the last field of a line is spelled
  pub s_last : (w : List ℕ) (f : ℕ → E) (v : ℕ) → v ≤ written_most → Spells (lastly w f) (f v) (w ++ (numeral v ++ bytes "\n"))
  unfolding lastly
  s_last w f v h = s_word w (s_number v h (s_word (bytes "\n") s_stop))

-- Every line that the grammar spells, with what c puts in front, is the line that r gives to its value, and f holds of the value: there is
-- one equation for each end of the grammar.
module _ {E : Type 0} (r : E → List ℕ) (f : E → Type 0) where
  abbrev pub Agrees : Grammar E → (List ℕ → List ℕ) → Type 0
  Agrees (stop e) c = (c [] ≡ r e) × f e
  Agrees (byte b g) c = Agrees g (λ t. c (b ∷ t))
  Agrees (either b g h) c = Agrees g (λ t. c (b ∷ t)) × Agrees h c
  Agrees (number g) c = (v : ℕ) → v ≤ written_most → Agrees (g v) (λ t. c (numeral v ++ t))

  pub agreed : {g : Grammar E} {e : E} {bs : List ℕ} (c : List ℕ → List ℕ) → Agrees g c → Spells g e bs → (c bs ≡ r e) × f e
  agreed c a s_stop = a
  agreed c a (s_byte {b = b} s) = agreed (λ t. c (b ∷ t)) a s
  agreed c a (s_this {b = b} s) = agreed (λ t. c (b ∷ t)) a.0 s
  agreed c a (s_else s) = agreed c a.1 s
  agreed c a (s_number v h s) = agreed (λ t. c (numeral v ++ t)) (a v h) s
