-- DETERMINACY of the walker: two walkers that a contract allows for one input are equal.
use Rattle.std.specs.Prelude.{ℕ, ◌≡◌, List}
use Rattle.std.specs.Borrow.{Bor}
use Rattle.journal.specs.declared.Walker.{Walker}

-- `journal::new` and `journal::moved`: their contracts fix the bytes that the walker holds, and its place
abbrev pub NewDetermined : Type 0
NewDetermined = (bytes : Bor (List ℕ)) (r r' : Walker) → (r.bytes ≡ bytes) × (r.at ≡ 0) → (r'.bytes ≡ bytes) × (r'.at ≡ 0) → r ≡ r'

abbrev pub MovedDetermined : Type 0
MovedDetermined =
    (w r r' : Walker) (at : ℕ) → (r.bytes ≡ w.bytes) × (r.at ≡ at) → (r'.bytes ≡ w.bytes) × (r'.at ≡ at) → r ≡ r'
