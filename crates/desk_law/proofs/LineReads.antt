-- Each return of the calls that read a line leaves what the definition says: the answer is the right one, and no count exceeds a line's length.
use Prim.Native.Nat.{ℕ, ◌≤◌, ◌<◌}
use native.Mathlib.Omega.{arith}
use mathlib.Core.Path.{◌≡◌, refl, sym, ap, ◌∙◌}
use mathlib.Core.List.{List}
use borrow.Author.Tests.{lt-ltb, le-ltb}
use lib.ListN.{length, take, length-append}
use lib.Seq.{length-take-le}
use Rattle.std.specs.Prelude.{Ok, Err}
use Rattle.terms.specs.declared.Refusal.TheVariants.{SmallRoom, LineUnfinished, LineWrong}
use Rattle.terms.specs.Sizes.{line_room}
use Rattle.terms.specs.Refusals.{number_of}
use Rattle.tables.specs.Put.{put}
use Rattle.lines_text_law.specs.Grammar.{LineAnswer, whole, unfinished, wrong}
use Rattle.lines_text_law.specs.Reading.{LineOf, Right, ReadAs}
use Rattle.lines_text_law.proofs.Sorts.{Lawful, told}
use Rattle.desk_packing_law.specs.Answers.{count_most, answer_number, answer_of}
use Rattle.desk_law.specs.Reads.{read_number, run_read, ReadInto}

-- where the slice is too short for the numbers of a value, nothing is read
pub read_short : {E : Type 0} (numbers : E → List ℕ) (m : ℕ) (a : LineAnswer E) (run : List ℕ) (r : ℕ) → length run < m → r ≡ answer_of (Err SmallRoom) 0 →
    ReadInto numbers m a run run r
read_short numbers m a run r h x = record { answer = rw (lt-ltb (length run) m h) x; laid = rw (lt-ltb (length run) m h) }

-- lines of any sort of which none is longer than a line room: a is the answer of a reader
module _ {E : Type 0} {render figures : E → List ℕ} {read : List ℕ → LineAnswer E} (lines : Lawful render figures read)
    (short : (e : E) → length (render e) ≤ line_room) {line : List ℕ} {a : LineAnswer E} (right : ReadAs (LineOf render figures) line a) where
  -- an answer can count the bytes of a line, and those before a wrong byte
  pub whole-few : {e : E} {n : ℕ} → a ≡ whole e n → n ≤ count_most
  whole-few {e} {n} q = go (rw q at right.right)
    where
      go : Right (LineOf render figures) line (whole e n) → n ≤ count_most
      go (h, (l, _)) = omega (arith, length-take-le n line h, short e, rw l at (length-take-le n line h))

  pub wrong-few : {n : ℕ} → a ≡ wrong n → n ≤ count_most
  wrong-few {n} q = go (rw q at right.right)
    where
      go : Right (LineOf render figures) line (wrong n) → n ≤ count_most
      go (h, (e, rest, (l, _)), _, _) =
          let m : n ≤ length line = omega arith in
          omega (arith, length-take-le n line m, length-append (take n line) rest, short e, rw l at (length-append (take n line) rest))

  -- what each answer leaves in the slice
  module _ (numbers : E → List ℕ) (m : ℕ) (run : List ℕ) (r : ℕ) (h : m ≤ length run) where
    into : {o : LineAnswer E} {run' : List ℕ} → a ≡ o → r ≡ read_number o → run' ≡ run_read numbers o run → ReadInto numbers m (read line) run run' r
    into q x l =
        let k = sym (told lines line a right) ∙ q in
        record { answer = rw (le-ltb (length run) m h, k) x; laid = rw (le-ltb (length run) m h, k) l }

    pub whole_into : {e : E} {n : ℕ} {run' ns : List ℕ} → a ≡ whole e n → ns ≡ numbers e → run' ≡ put run 0 ns → r ≡ answer_of (Ok tt) n →
        ReadInto numbers m (read line) run run' r
    whole_into q f l x = into q x (l ∙ ap (put run 0) f)

    pub unfinished_into : a ≡ unfinished → r ≡ answer_of (Err LineUnfinished) 0 → ReadInto numbers m (read line) run run r
    unfinished_into q x = into q x refl

    pub wrong_into : {n : ℕ} → a ≡ wrong n → r ≡ answer_number (number_of LineWrong) n → ReadInto numbers m (read line) run run r
    wrong_into q x = into q x refl
