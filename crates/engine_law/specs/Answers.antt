-- What `apply` answers, by the paper's numbers. "When an answer is an enum, a definition states this paper's number and values for each of
-- its cases."
use Rattle.std.specs.Prelude.{ℕ, Result, Ok, Err}
use Rattle.terms.specs.declared.Refusal.{Refusal}
use Rattle.terms.specs.Refusals.{number_of}

-- the count of an event's reports, or the refusal
abbrev pub Answer : Type 0
Answer = Result ℕ Refusal

-- "All refusals return the number": that of the refusal, 0 where the event is accepted
abbrev pub answer_code : Answer → ℕ
answer_code (Ok count) = 0
answer_code (Err r) = number_of r

-- "The count of reports is returned" for an accepted event; a refusal has none
abbrev pub answer_count : Answer → ℕ
answer_count (Ok count) = count
answer_count (Err r) = 0
