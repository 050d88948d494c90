-- The reports of a call are few, and a call that is not refused has room for them.
use Prim.Native.Nat.{ℕ, ◌≤◌}
use native.Mathlib.Omega.{arith}
use mathlib.Core.Path.{◌≡◌}
use mathlib.Core.Bool.{true}
use mathlib.Core.List.{List}
use lib.ListN.{length}
use Rattle.std.specs.Prelude.{Ok}
use Rattle.terms.specs.declared.Event.{Event}
use Rattle.tables.specs.Lengths.{reports_most}
use Rattle.terms.proofs.Logic.{cases}
use Rattle.state_law.specs.declared.Session.{Session}
use Rattle.soundness_law.specs.Sound.{day_in}
use Rattle.engine_law.specs.Calls.{roomy, called}
use Rattle.engine_law.proofs.Applies.{called-outcome, called-short}
use Rattle.engine_law.proofs.Kept.{outcome-few}

module _ (s : Session) (e : Event) (buys sells room : List ℕ) where
  -- there are no more reports than the room can hold
  pub called-few : length (called s e buys sells room).reports ≤ reports_most
  called-few =
      cases (roomy buys sells room)
      (λ h. rw (called-outcome s e buys sells room h) (outcome-few (day_in s buys sells) e))
      (λ h. rw (called-short s e buys sells room h) (omega arith))

  -- a call that is not refused has tables and room that are long enough
  pub fine-roomy : (called s e buys sells room).verdict ≡ Ok tt → roomy buys sells room ≡ true
  fine-roomy v =
      cases (roomy buys sells room)
      (λ h. h)
      (λ h. let k = rw (called-short s e buys sells room h) at v in absurd (let z : ◌≡◌ {A = ℕ} 0 1 = cc in omega arith))
