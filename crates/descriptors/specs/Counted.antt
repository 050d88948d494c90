-- No count exceeds the bytes that there are.
use Rattle.std.specs.Prelude.{ℕ, ◌≤◌, Result, Ok, Err}
use Rattle.descriptors.specs.declared.Failed.{Failed}
use Rattle.descriptors.specs.declared.LoadError.{LoadError}

-- no more bytes were read than there is room for
abbrev pub GotWithin : ℕ → Result ℕ Failed → Type 0
GotWithin most (Ok n) = n ≤ most
GotWithin most (Err e) = Unit {0}

abbrev pub LoadWithin : ℕ → Result ℕ LoadError → Type 0
LoadWithin most (Ok n) = n ≤ most
LoadWithin most (Err e) = Unit {0}
