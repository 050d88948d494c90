-- Document 01, "Refusal numbers, first that applies"; document 02, item 4.
use Rattle.std.specs.Prelude.{ℕ, ⊤, Bool, cond, List, [], ◌∷◌, Result, Ok, Err}
use Rattle.terms.specs.declared.Refusal.{Refusal}
use Rattle.terms.specs.declared.Refusal.TheVariants.{SmallRoom, Unsound, Closed, NumberRange, TimeBack, OutOfHours, OffTick, OutsideBand, NotResting, SideFull, DayFull, SettingsRange, SettingsOffTick, LineUnfinished, LineWrong, SmallLineRoom, NumberLong, LineRefused}

-- the rows of the paper's table
abbrev pub number_of : Refusal → ℕ
number_of SmallRoom = 1  -- a table under 768 numbers, or report room under 3,120
number_of Unsound = 2  -- session not sound
number_of Closed = 3  -- already closed
number_of NumberRange = 4  -- a number of the event out of its range
number_of TimeBack = 5  -- time below the last accepted time
number_of OutOfHours = 6  -- close before the length, any other at or after it
number_of OffTick = 7  -- limit or settlement not a tick multiple
number_of OutsideBand = 8  -- limit outside the band
number_of NotResting = 9  -- cancel: no such resting order
number_of SideFull = 10  -- day order, its own side holds 256
number_of DayFull = 11  -- order, and 60,000 orders given or over 59,744 trades made
number_of SettingsRange = 12  -- settings out of range
number_of SettingsOffTick = 13  -- base, close or settlement not a tick multiple
number_of LineUnfinished = 14  -- line unfinished
number_of LineWrong = 15  -- line wrong; returns the place
number_of SmallLineRoom = 16  -- line room under 128 bytes
number_of NumberLong = 17  -- a number above 999,999,999 to be written
number_of LineRefused = 22  -- a saved line that the engine refuses; returns its start

-- a judgement: no refusal applies, or the first that does
abbrev pub Verdict : Type 0
Verdict = Result ⊤ Refusal

-- a rule: the refusal, and what must hold for it not to apply
pub record Rule : Type 0 where
  pub refusal : Refusal
  pub holds : Bool

abbrev pub unless : Refusal → Bool → Rule
unless refusal holds = record { refusal = refusal; holds = holds }

-- "first that applies"
unfoldable pub first_failed : List Rule → Verdict
first_failed [] = Ok tt
first_failed (r ∷ rs) = cond r.holds (first_failed rs) (Err r.refusal)

-- the paper's number of a verdict; 0 where no refusal applies
abbrev pub code_of : Verdict → ℕ
code_of (Ok _) = 0
code_of (Err r) = number_of r
