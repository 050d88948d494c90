-- What the replay of a piece comes to, arm by arm.
use Prim.Native.Nat.{ℕ, ◌+◌, ◌-◌, ◌^◌, ◌<◌}
use native.Mathlib.Omega.{arith}
use mathlib.Core.Path.{◌≡◌, ap, ◌∙◌}
use mathlib.Core.Bool.{true, false}
use Rattle.std.specs.Prelude.{Ok, Err}
use Rattle.state_law.specs.declared.Session.{Session}
use Rattle.state_law.specs.Opening.{fixed_session}
use Rattle.resume_law.specs.Answers.{bad_at}
use Rattle.resume_law.specs.declared.BadLine.{BadLine}
use Rattle.resume_law.specs.declared.Back.{Back}
use Rattle.resume_law.specs.declared.Passed.{Passed}
use Rattle.resume_law.specs.declared.Replayed.{Replayed}
use Rattle.resume_law.specs.Pieces.{back_to, unread_back, passed_to, passed_end, StoodAs}
use Rattle.resume_law.specs.Pieces.StoodAs.{over, refuses}

-- ---- what is answered, by its parts

pub fixed_unread : (s : Session) → s ≡ fixed_session → ◌≡◌ {A = Back} (record { answer = Ok 0; session = s; read = false }) unread_back
fixed_unread s f = ap (λ (x : Session). record { answer = Ok 0; session = x; read = false }) f

pub passed_back : (n before : ℕ) (s : Session) (b : Back) → b ≡ back_to (Ok before) s →
    ◌≡◌ {A = Passed} (record { used = n; before = before; back = b; more = true }) (passed_to n before s)
passed_back n before s b e = ap (λ (x : Back). record { used = n; before = before; back = x; more = true }) e

-- ---- the arms of `stood`

module _ (t : Replayed) (before : ℕ) (r : Passed) where
  -- the sum is no number of the machine
  pub stood-over : (n : ℕ) (b : Back) → t.answer ≡ Ok n → 2 ^ 64 - 1 - before < n → b ≡ unread_back → r ≡ passed_end b → StoodAs t before r
  stood-over n b h l u e = over (rw h (omega arith)) (e ∙ ap passed_end u)

  pub stood_far : (bad : BadLine) (b : Back) → t.answer ≡ Err bad → 2 ^ 64 - 1 - before < bad.place → b ≡ unread_back → r ≡ passed_end b → StoodAs t before r
  stood_far bad b h l u e = over (rw h (omega arith)) (e ∙ ap passed_end u)

  pub stood-refuses : (bad : BadLine) (b : Back) → t.answer ≡ Err bad → b ≡ back_to (bad_at bad.refusal (before + bad.place)) t.session →
      r ≡ passed_end b → StoodAs t before r
  stood-refuses bad b h u e = refuses bad.refusal bad.place h (e ∙ ap passed_end u)
