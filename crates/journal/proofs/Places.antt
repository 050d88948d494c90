-- The bytes from a place on are a part of the slice; and what the reader's answer there says of lines.
use Prim.Native.Nat.{ℕ, ◌-◌}
use native.Mathlib.Nat.{le_of_eq, le_of_lt}
use native.Mathlib.Omega.{arith}
use denote.Ref.{Bor}
use mathlib.Core.Path.{◌≡◌, sym, ap, ◌∙◌}
use mathlib.Core.List.{List, []}
use lib.ListN.{length, take, drop, length-drop, drop_of_length-le}
use lib.Seq.{take_all}
use Rattle.std.specs.Prelude.{Result, Option, Some, None, ◌⊎◌}
use Rattle.std.specs.List.{PartBy}
use Rattle.std.specs.Option.{unwrap_or}
use Rattle.std.proofs.Common.{⊎_elim}
use Rattle.terms.specs.declared.Event.{Event}
use Rattle.lines_text_law.specs.declared.LineError.{LineError}
use Rattle.lines_text_law.specs.declared.Parsed.{Parsed}
use Rattle.lines_text_law.specs.Reading.{answered}
use Rattle.lines_text_law.proofs.Sorts.{told, right_as}
use Rattle.lines_reading_law.specs.Answers.{EventRead, read_event}
use Rattle.lines_reading_law.proofs.EventLines.{event-lines}
use Rattle.lines_reading_law.specs.Walk.{read_at}

-- the part of the slice from a place to its end is the bytes from the place on
part_is : (bytes : List ℕ) (place : ℕ) → take (length bytes - place) (drop place bytes) ≡ drop place bytes
part_is bytes place = take_all (length bytes - place) (drop place bytes) (le_of_eq (length-drop place bytes))

-- what `get` finds from a place on, or nothing, is the bytes from the place on
pub rest_is : (bytes : List ℕ) (place : ℕ) (o : Option (Bor (List ℕ))) (x : Bor (List ℕ)) → x.now ≡ []
    → PartBy (λ (y : Bor (List ℕ)). y.now) bytes place (length bytes) o → (unwrap_or o x).now ≡ drop place bytes
rest_is bytes place (Some y) x e (m, _) = m.2 ∙ part_is bytes place
rest_is bytes place None x e (m, _) = e ∙ sym (drop_of_length-le bytes (⊎_elim (λ k. le_of_lt k) (λ k. absurd (let z : ⊥ = omega arith in z)) m))

-- what is read of them is the answer at the place
pub read_there : (bytes : List ℕ) (place : ℕ) (rest : List ℕ) (r : Result (Parsed Event) LineError) → rest ≡ drop place bytes → EventRead rest r → answered r ≡ read_at bytes place
unfolding read_at
read_there bytes place rest r q a = told event-lines rest (answered r) a ∙ ap read_event q

-- an answer at a place is the reader's right answer for the bytes from there on
pub right_there : (bytes : List ℕ) (place : ℕ) (r : Result (Parsed Event) LineError) → answered r ≡ read_at bytes place → EventRead (drop place bytes) r
unfolding read_at
right_there bytes place r q = right_as event-lines (drop place bytes) (answered r) q
