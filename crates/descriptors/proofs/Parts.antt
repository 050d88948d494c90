-- What was counted as read lies within the buffer.
use Prim.Native.Nat.{ℕ, ◌≤◌}
use mathlib.Core.Path.{◌≡◌, subst}
use Rattle.std.specs.Prelude.{Result, Ok}
use Rattle.descriptors.specs.declared.Failed.{Failed}
use Rattle.descriptors.specs.Counted.{GotWithin}

pub got-within : {most n : ℕ} {g : Result ℕ Failed} → GotWithin most g → g ≡ Ok n → n ≤ most
got-within {most} h e = subst (GotWithin most) e h
