-- ANSWERS as one number: code + 256 × count. The code is 0 where the call did what was asked, else the paper's number of the refusal; the
-- count is of reports or bytes, and with 15 it is the place.
use Rattle.std.specs.Prelude.{ℕ, ◌+◌, ◌*◌, Ok, Err}
use Rattle.terms.specs.Refusals.{Verdict, number_of}

-- every code is below this
abbrev pub codes : ℕ
codes = 256

-- no count is above this
abbrev pub count_most : ℕ
count_most = 1000

abbrev pub answer_number : ℕ → ℕ → ℕ
answer_number code count = code + codes * count

-- the answer for a verdict, with the count of what was done
abbrev pub answer_of : Verdict → ℕ → ℕ
answer_of (Ok _) count = answer_number 0 count
answer_of (Err r) count = answer_number (number_of r) 0
