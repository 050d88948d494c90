-- The number by which an app knows the library that it links. Stored numbers have their own (`layout` in desk_packing_law/specs/Runs.antt).
use Rattle.std.specs.Prelude.{ℕ}

-- the library's number
abbrev pub version : ℕ
version = 3000
