-- What writing a line into a lent room does, whatever the line is.
use Rattle.std.specs.Prelude.{ℕ, ◌+◌, ◌≤◌, ◌≡◌, List, [], ◌∷◌, ◌++◌, length, drop, leb, Ok, Err, Result}
use Rattle.terms.specs.declared.Refusal.{Refusal}
use Rattle.terms.specs.declared.Refusal.TheVariants.{SmallLineRoom, NumberLong}
use Rattle.terms.specs.Sizes.{line_room}
use Rattle.terms.specs.Refusals.{Verdict, number_of, unless, first_failed}
use Rattle.lines_text_law.specs.Numerals.{all_writable}
use Rattle.lines_text_law.specs.Forms.{fill, holes, longest}

-- 16, "line room under 128 bytes", then 17, "a number above 999,999,999 to be written"
unfoldable pub line_verdict : List ℕ → List ℕ → Verdict
line_verdict room numbers = first_failed (unless SmallLineRoom (leb line_room (length room)) ∷ unless NumberLong (all_writable numbers) ∷ [])

-- the answer: the line's length, or the refusal
abbrev pub wrote_of : Verdict → ℕ → Result ℕ Refusal
wrote_of (Ok _) n = Ok n
wrote_of (Err r) n = Err r

-- the paper's number of an answer: that of the refusal, or 0 for a line
abbrev pub wrote_code : Result ℕ Refusal → ℕ
wrote_code (Ok n) = 0
wrote_code (Err r) = number_of r

-- the room afterwards: the line at its start, "Line room past the newline is untouched"; refusals "write nothing"
abbrev pub room_of : Verdict → List ℕ → List ℕ → List ℕ
room_of (Ok _) line room = line ++ drop (length line) room
room_of (Err r) line room = room

-- the line, with these numbers in it, was written into room, which is room' afterwards, and r was answered
pub record Writes (room line numbers : List ℕ) (r : Result ℕ Refusal) (room' : List ℕ) : Type 0 where
  pub answer : r ≡ wrote_of (line_verdict room numbers) (length line)
  pub laid : room' ≡ room_of (line_verdict room numbers) line room

-- the same, with the line given as a form and its numbers
abbrev pub WritesForm : List ℕ → List ℕ → List ℕ → Result ℕ Refusal → List ℕ → Type 0
WritesForm room form numbers r room' = Writes room (fill form numbers) numbers r room'

-- a form in two parts has a place for each number, and a room of 128 bytes holds its longest line
pub record Formed (head tail numbers : List ℕ) : Type 0 where
  pub enough : holes head + holes tail ≡ length numbers
  pub short : longest head + longest tail ≤ line_room
