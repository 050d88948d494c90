-- What saved bytes, and a line of them, are answered.
use Rattle.std.specs.Prelude.{ℕ, Result, Err}
use Rattle.terms.specs.declared.Refusal.{Refusal}
use Rattle.resume_law.specs.declared.BadLine.{BadLine}
use Rattle.resume_law.specs.declared.Halt.{Halt}

-- how many of the bytes count, or their first bad line
abbrev pub Comeback : Type 0
Comeback = Result ℕ BadLine

-- a bad line is told, by its parts
abbrev pub bad_at : Refusal → ℕ → Comeback
bad_at refusal place = Err (record { refusal = refusal; place = place })

-- the length of a line that is applied, or why none is
abbrev pub SavedLine : Type 0
SavedLine = Result ℕ Halt
