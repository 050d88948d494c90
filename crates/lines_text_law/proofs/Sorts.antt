-- What holds of every sort of line that a plain grammar spells.
use Prim.Native.Nat.{ℕ, ◌≤◌, ◌<◌}
use native.Mathlib.Omega.{arith}
use mathlib.Core.Path.{◌≡◌, refl, subst, ap, ◌∙◌}
use mathlib.Core.List.{List, [], ◌++◌}
use lib.ListN.{length, take, drop, length-take, take-append-drop}
use lib.Seq.{take-take, take_all}
use Rattle.std.specs.Prelude.{Result, Ok, Err}
use Rattle.terms.specs.Numbers.{Writable}
use Rattle.lines_text_law.specs.declared.LineError.{LineError}
use Rattle.lines_text_law.specs.declared.LineError.TheVariants.{Unfinished, Wrong}
use Rattle.lines_text_law.specs.declared.Parsed.{Parsed}
use Rattle.lines_text_law.specs.Grammar.{Grammar, LineAnswer, whole, unfinished, wrong, look}
use Rattle.lines_text_law.specs.Reading.{failed, answered, LineOf, Begins, Contains, Right, ReadAs}
use Rattle.lines_text_law.proofs.Grammars.{Spells, Plain, Agrees, agreed}
use Rattle.lines_text_law.proofs.Rightness.{right, one, read_back, apart}
use Rattle.lines_text_law.proofs.Longer.{right_longer}

-- what holds of one sort of line: render writes the line of a value, with the numbers of figures, and read is the answer to bytes
pub record Lawful {E : Type 0} (render figures : E → List ℕ) (read : List ℕ → LineAnswer E) : Type 0 where
  -- the reader's answer is the right one
  pub right : (s : List ℕ) → Right (LineOf render figures) s (read s)
  -- and no other is
  pub only : (s : List ℕ) (o q : LineAnswer E) → Right (LineOf render figures) s o → Right (LineOf render figures) s q → o ≡ q
  -- a value's line is read back as the value, whatever follows
  pub back : (e : E) (rest : List ℕ) → Writable (figures e) → read (render e ++ rest) ≡ whole e (length (render e))
  -- two values never share a line
  pub apart : (e f : E) → Writable (figures e) → Writable (figures f) → render e ≡ render f → e ≡ f
  -- bytes that are read as a value are its line, so a value has one spelling
  pub spelled : (s : List ℕ) (e : E) (n : ℕ) → read s ≡ whole e n → take n s ≡ render e
  -- where there are no bytes the answer is "unfinished"
  pub none : read [] ≡ unfinished

-- these follow from the grammar: it is plain, each of its ends spells the line of its value, and each line is spelled
module _ {E : Type 0} (render figures : E → List ℕ) (g : Grammar E) (plain : Plain g)
    (agrees : Agrees render (λ e. Writable (figures e)) g (λ x. x)) (spells : (e : E) → Writable (figures e) → Spells g e (render e))
    (none : look g [] 0 ≡ unfinished) where
  abbrev L : E → List ℕ → Type 0
  L = LineOf render figures

  to : (e : E) (bs : List ℕ) → Spells g e bs → L e bs
  to e bs s = agreed render (λ e. Writable (figures e)) (λ x. x) agrees s

  from : (e : E) (bs : List ℕ) → L e bs → Spells g e bs
  from e bs l = rw l.0 (spells e l.1)

  pub lawful : Lawful render figures (λ s. look g s 0)
  lawful =
      record {
        right = right L g plain to from;
        only = one L g plain to from;
        back = λ e rest w. read_back L g plain to from e (render e) rest (refl, w);
        apart = λ e f v w q. apart L g plain to from e f (render e) (refl, v) (q, w);
        spelled = λ s e n q. (rw q at (right L g plain to from s)).1.0;
        none = none;
      }

-- ---- the three answers are three

pub not-whole : {E : Type 0} {o : LineAnswer E} {e : E} {n : ℕ} → o ≡ whole e n → o ≡ unfinished → ⊥
not-whole p q = let z : ◌≡◌ {A = ℕ} 0 1 = cc in omega arith

pub not-wrong : {E : Type 0} {o : LineAnswer E} {n : ℕ} → o ≡ wrong n → o ≡ unfinished → ⊥
not-wrong p q = let z : ◌≡◌ {A = ℕ} 0 1 = cc in omega arith

-- ---- what code returned, as the answer that it stands for

module _ {E : Type 0} {r : Result (Parsed E) LineError} where
  pub whole-read : {p : Parsed E} → r ≡ Ok p → answered r ≡ whole p.value p.next
  whole-read q = ap answered q

  pub unfinished-read : {e : LineError} → r ≡ Err e → e ≡ Unfinished → answered r ≡ unfinished
  unfinished-read q k = ap answered q ∙ ap failed k

  pub wrong-read : {e : LineError} {n : ℕ} → r ≡ Err e → e ≡ Wrong n → answered r ≡ wrong n
  wrong-read q k = ap answered q ∙ ap failed k

-- rules for `search` where code has read a line
pub ruleset read-line = (whole-read, unfinished-read, wrong-read)

-- ---- what follows for a reader

module _ {E : Type 0} {render figures : E → List ℕ} {read : List ℕ → LineAnswer E} (lines : Lawful render figures read) where
  -- an answer that meets the contract is the computed one
  pub told : (s : List ℕ) (a : LineAnswer E) → ReadAs (LineOf render figures) s a → a ≡ read s
  told s a r = lines.only s a (read s) r.right (lines.right s)

  -- and the computed one meets it
  pub right_as : (s : List ℕ) (a : LineAnswer E) → a ≡ read s → ReadAs (LineOf render figures) s a
  right_as s a q = record { right = rw q (lines.right s) }

  -- every line has at least one byte
  pub some : (s : List ℕ) (e : E) (n : ℕ) → Right (LineOf render figures) s (whole e n) → n ≡ 0 → ⊥
  some s e n r z = not-whole (lines.only [] (read []) (whole e 0) (lines.right []) (omega arith, rw z at r.1)) lines.none

  -- an answer stays when more bytes follow, unless it was "unfinished"
  pub stays : (xs ys : List ℕ) (o : LineAnswer E) → (o ≡ unfinished → ⊥) → Right (LineOf render figures) xs o → read (xs ++ ys) ≡ o
  stays xs ys o n r = lines.only (xs ++ ys) _ _ (lines.right (xs ++ ys)) (right_longer (LineOf render figures) xs ys o n r)

  -- a line that is cut short begins a line and holds none
  module _ (e : E) (w : Writable (figures e)) (k : ℕ) (short : k < length (render e)) where
    abbrev line : List ℕ
    line = render e

    cut_begins : Begins (LineOf render figures) (take k line)
    cut_begins = (e, drop k line, (take-append-drop k line, w))

    ends_at : {f : E} {m n : ℕ} → whole e m ≡ whole f n → m ≡ n
    ends_at p = cc

    cut_contains : Contains (LineOf render figures) (take k line) → ⊥
    cut_contains (f, n, h, q) =
        let m = length-take k line in
        let n-short : n ≤ k = omega arith in
        let same : take n (take k line) ≡ take n line = take-take n k line n-short in
        let here : whole e (length line) ≡ whole f n =
        lines.only line (whole e (length line)) (whole f n) (omega arith, (take_all (length line) line (omega arith), w))
        (omega arith, subst (LineOf render figures f) same q) in
        let z = ends_at here in
        omega arith

    pub cut : read (take k line) ≡ unfinished
    cut = lines.only (take k line) _ unfinished (lines.right (take k line)) (cut_begins, cut_contains)
