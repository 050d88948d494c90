-- What a call came to, by each of its answers.
use Prim.Native.Nat.{ℕ}
use mathlib.Core.Path.{◌≡◌, refl}
use mathlib.Core.Bool.{true, false}
use lib.IntN.{ℤ}
use Rattle.std.specs.Prelude.{min, Ok, Err}
use Rattle.descriptors.specs.declared.Unmoved.{Unmoved}
use Rattle.descriptors.specs.Outcomes.{passes, outcome_by}

pub moved_by : (n most : ℕ) → Ok (min n most) ≡ outcome_by (Ok n) most
moved_by n most = refl

module _ (error : ℤ) (most : ℕ) where
  -- an error that passes
  pub again_by : passes error ≡ true → Err Unmoved.Again ≡ outcome_by (Err error) most
  again_by e = rw e

  pub failed_by : passes error ≡ false → Err Unmoved.Failed ≡ outcome_by (Err error) most
  failed_by e = rw e
