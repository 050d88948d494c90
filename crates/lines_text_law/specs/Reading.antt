-- Document 01, "Session lines": what the right answer about some bytes is, once it is said which bytes are the line of which value.
use Rattle.std.specs.Prelude.{ℕ, ◌≤◌, ◌<◌, ◌≡◌, List, ◌++◌, length, take, Result, Ok, Err}
use Rattle.terms.specs.Numbers.{Writable}
use Rattle.lines_text_law.specs.declared.LineError.{LineError}
use Rattle.lines_text_law.specs.declared.LineError.TheVariants.{Unfinished, Wrong}
use Rattle.lines_text_law.specs.declared.Parsed.{Parsed}
use Rattle.lines_text_law.specs.Grammar.{LineAnswer, whole, unfinished, wrong}

-- what code returns, as the answer that it stands for
abbrev pub failed : {E : Type 0} → LineError → LineAnswer E
failed Unfinished = unfinished
failed (Wrong n) = wrong n

abbrev pub answered : {E : Type 0} → Result (Parsed E) LineError → LineAnswer E
answered (Ok p) = whole p.value p.next
answered (Err e) = failed e

-- which bytes are the line of which value: those that are written, provided that each number can be
abbrev pub LineOf : {E : Type 0} → (E → List ℕ) → (E → List ℕ) → E → List ℕ → Type 0
LineOf render figures e b = (b ≡ render e) × Writable (figures e)

-- L e b says that b is the line of e
module _ {E : Type 0} (L : E → List ℕ → Type 0) where
  -- the bytes "begin a line": some line starts with them
  abbrev pub Begins : List ℕ → Type 0
  Begins b = (e : E) × (rest : List ℕ) × L e (b ++ rest)

  -- the bytes "hold .. whole one": some line stands at their start
  abbrev pub Contains : List ℕ → Type 0
  Contains b = (e : E) × (n : ℕ) × (n ≤ length b) × L e (take n b)

  -- A line is answered with its value and its length. "14 exactly when the bytes given, none included, begin a line and hold no whole one."
  -- Anything else is 15: "Place is the length of the longest start that begins such a line".
  abbrev pub Right : List ℕ → LineAnswer E → Type 0
  Right b (whole e n) = (n ≤ length b) × L e (take n b)
  Right b unfinished = Begins b × (Contains b → ⊥)
  Right b (wrong n) = (n < length b) × Begins (take n b) × ((k : ℕ) → n < k → k ≤ length b → Begins (take k b) → ⊥) × (Contains b → ⊥)

-- THE CONTRACT of a reader: its answer is the right one for the bytes
pub record ReadAs {E : Type 0} (L : E → List ℕ → Type 0) (b : List ℕ) (a : LineAnswer E) : Type 0 where
  pub right : Right L b a
