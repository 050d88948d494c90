-- The pieces of a line as code reads them, each at a place of the bytes.
use Rattle.std.specs.Prelude.{ℕ, zero, suc, ◌+◌, ◌-◌, ◌*◌, cond, List, [], ◌∷◌, drop, eqb, Result, Ok, Err}
use Rattle.lines_text_law.specs.declared.LineError.{LineError}
use Rattle.lines_text_law.specs.declared.LineError.TheVariants.{Unfinished, Wrong}
use Rattle.lines_text_law.specs.declared.Parsed.{Parsed}
use Rattle.lines_text_law.specs.Text.{bytes}
use Rattle.lines_text_law.specs.Grammar.{Grammar, stop, number, word, LineAnswer, digit, look}

-- what a grammar answers to the bytes of s from place n on
unfoldable pub at : {E : Type 0} → List ℕ → Grammar E → ℕ → LineAnswer E
at s g n = look g (drop n s) n

-- a value that was read, and the place after it
abbrev pub parsed : {E : Type 0} → E → ℕ → Parsed E
parsed v n = record { value = v; next = n }

-- what is found at a place, where the bytes left are l: the first of them
abbrev pub byte_on : List ℕ → Result ℕ LineError
byte_on [] = Err Unfinished
byte_on (x ∷ l) = Ok x

-- what reading the word w finds, where the bytes left are l and the first of them stands at place n
abbrev pub word_on : List ℕ → List ℕ → ℕ → Result ℕ LineError
word_on [] l n = Ok n
word_on (b ∷ w) [] n = Err Unfinished
word_on (b ∷ w) (x ∷ l) n = cond (eqb x b) (word_on w l (n + 1)) (Err (Wrong n))

-- what reading up to f more digits finds, behind those whose value is v
abbrev pub more_on : ℕ → ℕ → List ℕ → ℕ → Parsed ℕ
more_on zero v l n = parsed v n
more_on (suc f) v [] n = parsed v n
more_on (suc f) v (x ∷ l) n = cond (digit x) (more_on f (v * 10 + (x - 48)) l (n + 1)) (parsed v n)

-- what reading a numeral finds
abbrev pub number_on : List ℕ → ℕ → Result (Parsed ℕ) LineError
number_on [] n = Err Unfinished
number_on (x ∷ l) n =
    cond (eqb x 48) (Ok (parsed 0 (n + 1))) (cond (digit x) (Ok (more_on 8 (x - 48) l (n + 1))) (Err (Wrong n)))

-- what reading a number finds behind a word
abbrev pub then_number : List ℕ → Result ℕ LineError → Result (Parsed ℕ) LineError
then_number s (Ok m) = number_on (drop m s) m
then_number s (Err e) = Err e

unfoldable pub field_on : List ℕ → List ℕ → ℕ → Result (Parsed ℕ) LineError
field_on w s n = then_number s (word_on w (drop n s) n)

-- what reading the newline finds behind a number
abbrev pub end_after : ℕ → Result ℕ LineError → Result (Parsed ℕ) LineError
end_after v (Ok m) = Ok (parsed v m)
end_after v (Err e) = Err e

abbrev pub then_end : List ℕ → Result (Parsed ℕ) LineError → Result (Parsed ℕ) LineError
then_end s (Ok p) = end_after p.value (word_on (bytes "\n") (drop p.next s) p.next)
then_end s (Err e) = Err e

-- what reading the last field of a line finds: a word, a number and the newline
unfoldable pub last_on : List ℕ → List ℕ → ℕ → Result (Parsed ℕ) LineError
last_on w s n = then_end s (field_on w s n)

-- the grammar of a last field, whose number makes the value
unfoldable pub lastly : {E : Type 0} → List ℕ → (ℕ → E) → Grammar E
lastly w f = word w (number λ v. word (bytes "\n") (stop (f v)))
