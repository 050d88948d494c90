-- The tests that definitions are written in.
use Rattle.std.specs.Prelude.{ℕ, Bool, ◌&&◌, leb}

-- x lies from low to high, both included
abbrev pub between : ℕ → ℕ → ℕ → Bool
between low x high = leb low x && leb x high

-- both hold. It is `&&` kept folded, so that a proof can take a long list of conditions apart
infixl 35 ◌⊓◌
unfoldable pub ◌⊓◌ : Bool → Bool → Bool
a ⊓ b = a && b
