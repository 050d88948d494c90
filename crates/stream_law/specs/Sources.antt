-- Where a run's bytes come from: a descriptor, of which no contract of the C library says what it gives; or a text that is lent, so that every
-- byte that is read is known, and whether a read fails behind the last.
use Rattle.std.specs.Prelude.{ℕ, ◌≡◌, Bool, true, false, List, ◌++◌, drop}
use Rattle.stream_law.specs.declared.Source.{Source}

-- WHAT A SOURCE GIVES: these bytes, and then its end (where `whole` is true) or a read that fails
abbrev pub Gives : List ℕ → Source → List ℕ → Bool → Type 0
Gives given (Source.Live fd) bytes whole = Unit {0}
Gives given (Source.Text at) bytes true = bytes ≡ drop at given
Gives given (Source.Text at) bytes false = ⊥
Gives given (Source.Broken at) bytes true = ⊥
Gives given (Source.Broken at) bytes false = bytes ≡ drop at given

-- some bytes were read, and the source went from one standing to another: what it gives from there on it gives behind them
pub record Leads (given : List ℕ) (from : Source) (got : List ℕ) (from' : Source) : Type 0 where
  pub behind : (rest : List ℕ) (whole : Bool) → Gives given from' rest whole → Gives given from (got ++ rest) whole
