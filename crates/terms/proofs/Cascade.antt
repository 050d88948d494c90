-- A function that tries refusals one after the other returns the first that applies: `search cascade depth 14` answers each `return`.
use Prim.Native.Nat.{ℕ}
use native.Mathlib.Omega.{arith}
use mathlib.Core.Path.{◌≡◌, refl}
use mathlib.Core.Bool.{Bool, true, false, not}
use mathlib.Core.List.{List, [], ◌∷◌}
use borrow.Author.Tests.{not-true, not-false}
use Rattle.std.specs.Prelude.{Ok, Err}
use Rattle.terms.specs.declared.Refusal.{Refusal}
use Rattle.terms.specs.Refusals.{Verdict, Rule, unless, first_failed}

-- `found` is the outcome of the code's test of what must hold; where it is false, the code returns the refusal
pub stops_here : (n : Refusal) (found h : Bool) (rs : List Rule) → found ≡ h → not found ≡ true → Err n ≡ first_failed (unless n h ∷ rs)
unfolding first_failed
stops_here n found h rs s e = rw (← s, not-true found e)

pub goes_on : (x : Verdict) (n : Refusal) (found h : Bool) (rs : List Rule) → found ≡ h → not found ≡ false → x ≡ first_failed rs → x ≡ first_failed (unless n h ∷ rs)
unfolding first_failed
goes_on x n found h rs s e f = rw (← s, not-false found e) f

pub none_applies : Ok tt ≡ first_failed []
unfolding first_failed
none_applies = refl

pub ruleset cascade = (stops_here, goes_on, none_applies)

-- ---- what a verdict says of its rules

-- where no rule applies, the first rule holds and none of the others applies
pub fine-first : (n : Refusal) (h : Bool) (rs : List Rule) → first_failed (unless n h ∷ rs) ≡ Ok tt → (h ≡ true) × (first_failed rs ≡ Ok tt)
unfolding first_failed
fine-first n true rs e = (refl, e)
fine-first n false rs e = absurd (let z : ◌≡◌ {A = ℕ} 0 1 = cc in omega arith)
