-- What std answers of a call, as a count or the number of the error that the C library would leave.
use Rattle.std.specs.Prelude.{◌≡◌, ℕ, ℤ, Result, Ok, Err, IfOk, IfErr, IfSome, OnErr, IsErr}
use Rattle.std.specs.IoError.{raw_os_error}
use Rattle.std.specs.declared.io.Error.{Error}

-- THE CONTRACT of a call on some bytes: so many were moved; or it failed, which is never none moved, which would be the end
pub record AnsweredAs (moved : Result ℕ Error) (r : Result ℕ ℤ) : Type 0 where
  pub counted : IfOk moved (λ n. r ≡ Ok n)
  pub failed : OnErr moved (IsErr r)
  pub why : IfErr moved (λ e. IfSome (raw_os_error e) (λ code. r ≡ Err code))
