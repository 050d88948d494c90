-- THE CALLS THAT READ A LINE into numbers: what each call answers, and what it leaves in the lent slice.
use Rattle.std.specs.Prelude.{ℕ, ◌≡◌, cond, List, ltb, length, Err}
use Rattle.terms.specs.declared.Refusal.TheVariants.{SmallRoom}
use Rattle.tables.specs.Put.{put}
use Rattle.lines_text_law.specs.Grammar.{LineAnswer, whole, unfinished, wrong}
use Rattle.lines_reading_law.specs.Answers.{read_code, count_of, read_event, read_settings}
use Rattle.desk_packing_law.specs.Runs.{settings_length, event_length}
use Rattle.desk_packing_law.specs.Settings.{settings_numbers}
use Rattle.desk_packing_law.specs.Events.{event_numbers}
use Rattle.desk_packing_law.specs.Answers.{answer_number, answer_of}

-- the answer to a line: 0 with the bytes that it took, 14, or 15 with the place
abbrev pub read_number : {E : Type 0} → LineAnswer E → ℕ
read_number a = answer_number (read_code a) (count_of a)

-- the slice afterwards: the numbers of what was read; a refusal writes nothing
abbrev pub run_read : {E : Type 0} → (E → List ℕ) → LineAnswer E → List ℕ → List ℕ
run_read numbers (whole e n) run = put run 0 (numbers e)
run_read numbers unfinished run = run
run_read numbers (wrong n) run = run

-- the contract of a reading call, for values of n numbers, given the reader's answer a; a slice that is too short is answered as a short table
pub record ReadInto {E : Type 0} (numbers : E → List ℕ) (n : ℕ) (a : LineAnswer E) (run run' : List ℕ) (r : ℕ) : Type 0 where
  pub answer : r ≡ cond (ltb (length run) n) (answer_of (Err SmallRoom) 0) (read_number a)
  pub laid : run' ≡ cond (ltb (length run) n) run (run_read numbers a run)

abbrev pub EventReadInto : List ℕ → List ℕ → List ℕ → ℕ → Type 0
EventReadInto line run run' r = ReadInto event_numbers event_length (read_event line) run run' r

abbrev pub SettingsReadInto : List ℕ → List ℕ → List ℕ → ℕ → Type 0
SettingsReadInto line run run' r = ReadInto settings_numbers settings_length (read_settings line) run run' r
