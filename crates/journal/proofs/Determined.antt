-- The contracts fix a walker's bytes and its place, so two walkers that they allow for one input are equal.
use Prim.Native.Nat.{ℕ}
use mathlib.Core.Path.{◌≡◌, sym, ◌∙◌}
use mathlib.Core.List.{List}
use denote.Ref.{Bor}
use Rattle.journal.specs.declared.Walker.{Walker}
use Rattle.journal.specs.Determined.{NewDetermined, MovedDetermined}

walker_same : (bytes : Bor (List ℕ)) (place : ℕ) (r r' : Walker) → (r.bytes ≡ bytes) × (r.at ≡ place) →
    (r'.bytes ≡ bytes) × (r'.at ≡ place) → r ≡ r'
walker_same bytes place r r' a b = λ i. record { bytes = (a.0 ∙ sym b.0) i; at = (a.1 ∙ sym b.1) i }

pub new_determined : NewDetermined
new_determined bytes r r' a b = walker_same bytes 0 r r' a b

pub moved_determined : MovedDetermined
moved_determined w r r' at a b = walker_same w.bytes at r r' a b
