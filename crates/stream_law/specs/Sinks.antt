-- What is saved and printed, and where it goes: to a day's file and to standard output, or held against an expected text.
use Rattle.std.specs.Prelude.{ℕ, ◌+◌, ◌≤◌, ◌<◌, ◌≡◌, Bool, true, false, cond, List, [], ◌∷◌, ◌++◌, length, take, drop, eqb, leb, ℤ, pos, negsuc, Result, Ok, Err}
use Rattle.stream_law.specs.declared.Sink.{Sink}
use Rattle.stream_law.specs.declared.Finish.{Finish}
use Rattle.stream_law.specs.declared.Place.{Place}
use Rattle.stream_law.specs.declared.Wrote.{Wrote}

-- the bytes xs are the first bytes of ys
unfoldable pub begins : List ℕ → List ℕ → Bool
begins [] ys = true
begins (x ∷ xs) [] = false
begins (x ∷ xs) (y ∷ ys) = cond (eqb x y) (begins xs ys) false

abbrev pub matched_by : Bool → ℕ → Sink
matched_by true at = Sink.Match at
matched_by false at = Sink.Differs

-- how a comparison stands after text was printed behind the first `at` bytes of what is expected
abbrev pub matched : List ℕ → ℕ → List ℕ → Sink
matched expected at text = matched_by (begins text (drop at expected)) (at + length text)

-- the file and standard output took what was saved and printed, or one of them failed
abbrev pub Takes : Sink → Type 0
Takes Sink.Print = Unit {0}
Takes (Sink.Match at) = ⊥
Takes Sink.Differs = ⊥
Takes Sink.Unsaved = Unit {0}
Takes Sink.Lost = Unit {0}

-- how a sink stands after a step, where `next` says how a comparison then stands that stood at a place; after a difference or a failure
-- nothing is compared, saved or printed any more
abbrev pub StepsBy : (ℕ → Sink) → Sink → Sink → Type 0
StepsBy next Sink.Print r = Takes r
StepsBy next (Sink.Match at) r = r ≡ next at
StepsBy next Sink.Differs r = r ≡ Sink.Differs
StepsBy next Sink.Unsaved r = r ≡ Sink.Unsaved
StepsBy next Sink.Lost r = r ≡ Sink.Lost

-- how a sink stands after text was sent to it
abbrev pub StandsAs : List ℕ → Sink → List ℕ → Sink → Type 0
StandsAs expected to text r = StepsBy (λ at. matched expected at text) to r

-- THE CONTRACT of whatever hands a text on
pub record SentAs (expected : List ℕ) (to : Sink) (text : List ℕ) (r : Sink) : Type 0 where
  pub stands : StandsAs expected to text r

-- more may be sent to the sink
abbrev pub is_open : Sink → Bool
is_open Sink.Print = true
is_open (Sink.Match at) = true
is_open Sink.Differs = false
is_open Sink.Unsaved = false
is_open Sink.Lost = false

-- ---- what a call comes to

-- the file took what was saved, is cut, or is on the disk; or that failed
abbrev pub kept_by : {T E : Type 0} → Result T E → Sink
kept_by (Ok done) = Sink.Print
kept_by (Err failed) = Sink.Unsaved

-- the most bytes that a file can be cut to
abbrev pub length_most : ℕ
length_most = 9223372036854775807

-- a number of bytes as the C library takes it; a larger one is -1, at which it fails
abbrev pub length_of : ℕ → ℤ
length_of n = cond (leb n length_most) (pos n) (negsuc 0)

-- the descriptor of a place, and how a sink stands that could not hand it its bytes
abbrev pub descriptor_of : Place → ℤ
descriptor_of (Place.File fd) = fd
descriptor_of Place.Output = pos 1

abbrev pub failed_at : Place → Sink
failed_at (Place.File fd) = Sink.Unsaved
failed_at Place.Output = Sink.Lost

-- ---- one write, and many

abbrev pub held_by : Sink → ℕ → Wrote
held_by to n = record { to = to; taken = n }

-- what a write came to that took so many bytes; none are a failure
abbrev pub took_by : Place → ℕ → Wrote
took_by place n = cond (eqb n 0) (held_by (failed_at place) 0) (held_by Sink.Print n)

-- THE CONTRACT of one write: the first bytes were handed on, some at least; or the sink is shut
pub record WroteAs (expected : List ℕ) (to : Sink) (bytes : List ℕ) (r : Wrote) : Type 0 where
  pub within : r.taken ≤ length bytes
  pub sent : SentAs expected to (take r.taken bytes) r.to
  pub some : is_open r.to ≡ true → 0 < length bytes → 0 < r.taken

-- ---- what a day's file and the output are handed, in one order, as a comparison sees it: the bytes of each part behind a mark, `>` for what
-- is saved and `<` for what is shown; and a mark alone, `|`, for a wait until all that was handed to the file has reached the disk

abbrev pub save_mark : ℕ
save_mark = 62

abbrev pub show_mark : ℕ
show_mark = 60

abbrev pub disk_mark : ℕ
disk_mark = 124

abbrev pub mark_of : Place → ℕ
mark_of (Place.File fd) = save_mark
mark_of Place.Output = show_mark

-- a comparison holds the mark of a place; a live sink has none
abbrev pub mark_by : List ℕ → Place → Sink → Sink
mark_by expected place Sink.Print = Sink.Print
mark_by expected place (Sink.Match at) = matched expected at (mark_of place ∷ [])
mark_by expected place Sink.Differs = Sink.Differs
mark_by expected place Sink.Unsaved = Sink.Unsaved
mark_by expected place Sink.Lost = Sink.Lost

-- a wait for the disk
abbrev pub settled : List ℕ
settled = disk_mark ∷ []

-- what is saved has a wait for the disk behind it; no bytes are not handed at all
abbrev pub saved_part : List ℕ → List ℕ
saved_part [] = []
saved_part (x ∷ xs) = (save_mark ∷ x ∷ xs) ++ settled

abbrev pub shown_part : List ℕ → List ℕ
shown_part [] = []
shown_part (x ∷ xs) = show_mark ∷ x ∷ xs

-- ---- the file is cut

-- how a comparison stands after the file was cut to its first n bytes: it passes over n bytes of what is expected, which stand for them
abbrev pub passed : List ℕ → ℕ → ℕ → Sink
passed expected at n = matched_by (leb n (length (drop at expected))) (at + n)

-- THE CONTRACT of the cut alone
pub record ShortAs (expected : List ℕ) (to : Sink) (n : ℕ) (r : Sink) : Type 0 where
  pub stands : StepsBy (λ at. passed expected at n) to r

-- THE CONTRACT of `cut`: the file is cut to its first n bytes, and then there is a wait for the disk
pub record CutAs (expected : List ℕ) (to : Sink) (n : ℕ) (r : Sink) : Type 0 where
  pub short : Sink
  pub cuts : ShortAs expected to n short
  pub waits : SentAs expected short settled r

-- ---- the end

abbrev pub compared_by : Bool → Finish
compared_by true = Finish.Same
compared_by false = Finish.Differs

-- how a run ends: for "same", all of the expected output must have been printed
abbrev pub finish_of : List ℕ → Sink → Finish
finish_of expected Sink.Print = Finish.Printed
finish_of expected (Sink.Match at) = compared_by (eqb at (length expected))
finish_of expected Sink.Differs = Finish.Differs
finish_of expected Sink.Unsaved = Finish.Unsaved
finish_of expected Sink.Lost = Finish.Unwritten
