-- The reader that goes by a grammar gives the right answer (specs/Reading.antt), and no other answer is right.
use Prim.Native.Nat.{ℕ, suc, ◌+◌, ◌-◌, ◌≤◌, ◌<◌}
use native.Mathlib.Nat.{zero-add}
use native.Mathlib.Omega.{arith}
use mathlib.Core.Path.{◌≡◌, refl, sym, ap, ◌∙◌, subst}
use mathlib.Core.List.{List, [], ◌∷◌, ◌++◌, append_assoc}
use lib.ListN.{length, take, drop, length-append, take-append-drop}
use lib.Seq.{take_at, take-append-add, length-take-le, take-length}
use lib.Dec.{ltb}
use borrow.Author.Tests.{ltb-true, ltb-false}
use Rattle.terms.proofs.Logic.{cases}
use Rattle.lines_text_law.specs.Grammar.{Grammar, LineAnswer, whole, wrong, unfinished, look}
use Rattle.lines_text_law.specs.Reading.{Begins, Right}
use Rattle.lines_text_law.proofs.Grammars.{Spells, Plain, back, Seen, was_whole, was_unfinished, was_wrong, see}

not_both : {E : Type 0} {o : LineAnswer E} {e : E} {m k : ℕ} → o ≡ whole e m → o ≡ wrong k → ⊥
not_both p q = let z : ◌≡◌ {A = ℕ} 0 1 = cc in omega arith

not_short : {E : Type 0} {o : LineAnswer E} {e : E} {m : ℕ} → o ≡ whole e m → o ≡ unfinished → ⊥
not_short p q = let z : ◌≡◌ {A = ℕ} 0 1 = cc in omega arith

longer : (a : List ℕ) (x : ℕ) (z : List ℕ) (k : ℕ) → length a < k → take k (a ++ x ∷ z) ≡ a ++ x ∷ take (k - length a - 1) z
longer a x z k h =
    let e : k ≡ length a + suc (k - length a - 1) = omega arith in
    ap (λ (j : ℕ). take j (a ++ x ∷ z)) e ∙ take-append-add a (x ∷ z) (suc (k - length a - 1))

-- the grammar is plain, and its lines are those of L
module _ {E : Type 0} (L : E → List ℕ → Type 0) (g : Grammar E) (plain : Plain g)
    (to : (e : E) (bs : List ℕ) → Spells g e bs → L e bs) (from : (e : E) (bs : List ℕ) → L e bs → Spells g e bs) where
  -- a line is read back, whatever bytes follow
  pub read_back : (e : E) (bs r : List ℕ) → L e bs → look g (bs ++ r) 0 ≡ whole e (length bs)
  read_back e bs r l = rw (zero-add (length bs)) at (back plain (from e bs l) r 0)

  -- where a line stands at the start of the bytes, it is what is read
  holds : (b : List ℕ) (e : E) (m : ℕ) → m ≤ length b → L e (take m b) → look g b 0 ≡ whole e m
  holds b e m h s =
      ap (λ (c : List ℕ). look g c 0) (sym (take-append-drop m b))
      ∙ read_back e (take m b) (drop m b) s
      ∙ rw (length-take-le m b h)

  -- where the byte x is wrong behind a, no line begins with both
  stuck : (m : ℕ) (a : List ℕ) (x : ℕ) → ((u : List ℕ) → look g (a ++ x ∷ u) 0 ≡ wrong m) → (u : List ℕ) → Begins L (a ++ x ∷ u) → ⊥
  stuck m a x w u b =
      not_both (back plain (from b.0 ((a ++ x ∷ u) ++ b.1) b.2) [] 0)
      (ap (λ (c : List ℕ). look g c 0) (append_assoc (a ++ x ∷ u) b.1 [] ∙ append_assoc a (x ∷ u) (b.1 ++ []))
      ∙ w (u ++ (b.1 ++ [])))

  shown : (b : List ℕ) (o : LineAnswer E) → look g b 0 ≡ o → Seen g b 0 o → Right L b o
  shown b o i (was_whole e m bs r s q n) =
      let len : length b ≡ length bs + length r = ap length q ∙ length-append bs r in
      (omega arith, subst (λ (c : List ℕ). L e c) (sym (ap (take m) q ∙ take_at bs r m (omega arith))) (to e bs s))
  shown b o i (was_unfinished e t s) = ((e, t, to e (b ++ t) s), λ h. not_short (holds b h.0 h.1 h.2 h.3) i)
  shown b o i (was_wrong m a x z q n e t s w) =
      let len : length b ≡ length a + suc (length z) = ap length q ∙ length-append a (x ∷ z) in (
        omega arith,
        (e, t, subst (λ (c : List ℕ). L e (c ++ t)) (sym (ap (take m) q ∙ take_at a (x ∷ z) m (omega arith))) (to e (a ++ t) s)),
        λ k h j y.
            stuck m a x w (take (k - length a - 1) z)
            (subst (λ (c : List ℕ). Begins L c) (ap (take k) q ∙ longer a x z k (omega arith)) y),
        λ h. not_both (holds b h.0 h.1 h.2 h.3) i,
      )

  -- the reader's answer is right
  pub right : (b : List ℕ) → Right L b (look g b 0)
  right b = shown b (look g b 0) refl (see g b 0)

  -- two right answers are the same
  pub one : (b : List ℕ) (o q : LineAnswer E) → Right L b o → Right L b q → o ≡ q
  one b (whole e m) (whole f n) r s = sym (holds b e m r.0 r.1) ∙ holds b f n s.0 s.1
  one b (whole e m) unfinished r s = absurd (s.1 (e, m, r.0, r.1))
  one b (whole e m) (wrong n) r s = absurd (s.3 (e, m, r.0, r.1))
  one b unfinished (whole f n) r s = absurd (r.1 (f, n, s.0, s.1))
  one b unfinished unfinished r s = refl
  one b unfinished (wrong n) r s = absurd (s.2 (length b) s.0 (omega arith) (subst (λ (c : List ℕ). Begins L c) (sym (take-length b)) r.0))
  one b (wrong m) (whole f n) r s = absurd (r.3 (f, n, s.0, s.1))
  one b (wrong m) unfinished r s = absurd (r.2 (length b) r.0 (omega arith) (subst (λ (c : List ℕ). Begins L c) (sym (take-length b)) s.0))
  one b (wrong m) (wrong n) r s =
      let less = cases (ltb m n) (λ t. absurd (r.2 n (ltb-true m n t) (omega arith) s.1)) (λ t. ltb-false m n t) in
      let more = cases (ltb n m) (λ t. absurd (s.2 m (ltb-true n m t) (omega arith) r.1)) (λ t. ltb-false n m t) in
      let e : m ≡ n = omega arith in
      rw e

  -- two values never share a line
  pub apart : (e f : E) (bs : List ℕ) → L e bs → L f bs → e ≡ f
  apart e f bs l k =
      let p = read_back e bs [] l in
      let q = read_back f bs [] k in
      cc
