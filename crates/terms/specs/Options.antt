-- Values that may be missing.
use Rattle.std.specs.Prelude.{Bool, true, Option}
use Rattle.std.specs.Option.{option_map_or}

-- the value passes a test, or there is none
abbrev pub of_any : {A : Type 0} → (A → Bool) → Option A → Bool
of_any test x = option_map_or test x true
