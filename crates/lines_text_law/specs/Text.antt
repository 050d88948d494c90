-- Text as a list of bytes.
use Rattle.std.specs.Prelude.{ℕ, List, [], ◌∷◌}
use Prim.Native.Char.{code}
use Prim.Native.String as S
use Prim.Native.String.{String}

-- the bytes of a text: `bytes "t="` is what the code writes as b"t="
abbrev pub bytes : String → List ℕ
bytes S.[] = []
bytes (S.◌∷◌ c s) = code c ∷ bytes s

-- the byte of a letter: `letter "b"` is what the code writes as b'b'
abbrev pub letter : String → ℕ
letter S.[] = 0
letter (S.◌∷◌ c s) = code c
