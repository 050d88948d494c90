-- What a call of the C library came to, by the count that it answered or the error that it left.
use Rattle.std.specs.Prelude.{ℕ, min, ◌≤◌, ◌≡◌, Bool, true, false, cond, ◌||◌, eqb, ℤ, pos, negsuc, Result, Ok, Err}
use Rattle.descriptors.specs.declared.Failed.{Failed}
use Rattle.descriptors.specs.declared.Unmoved.{Unmoved}

abbrev pub is_number : ℕ → ℤ → Bool
is_number k (pos n) = eqb n k
is_number k (negsuc n) = false

-- an error that may be gone later: EINTR, a signal interrupted the call; EAGAIN, the other side is not ready
abbrev pub passes : ℤ → Bool
passes error = is_number 4 error || is_number 11 error

-- as many bytes were moved as it answers, of those that there are; an error is a failure, or the call is to be made again
abbrev pub outcome_by : Result ℕ ℤ → ℕ → Result ℕ Unmoved
outcome_by (Ok n) most = Ok (min n most)
outcome_by (Err error) most = Err (cond (passes error) Unmoved.Again Unmoved.Failed)

abbrev pub is_again : Result ℕ Unmoved → Bool
is_again (Ok n) = false
is_again (Err Unmoved.Failed) = false
is_again (Err Unmoved.Again) = true

-- ---- what is answered of it

abbrev pub got_by : Result ℕ Unmoved → Result ℕ Failed
got_by (Ok n) = Ok n
got_by (Err e) = Err (record {})

-- no bytes taken stand for a failure
abbrev pub taken_by : Result ℕ Unmoved → ℕ
taken_by (Ok n) = n
taken_by (Err e) = 0

-- THE CONTRACT of a call that is made again for as long as it is to be: then it is not, and no more bytes were moved than there are
pub record SettledAs (most : ℕ) (r : Result ℕ Unmoved) : Type 0 where
  pub settled : is_again r ≡ false
  pub within : taken_by r ≤ most
