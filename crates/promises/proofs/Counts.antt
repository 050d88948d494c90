-- Where bytes come back and n of them count, these are the lines of settings that pass and of accepted events, and the day is theirs.
use Prim.Native.Nat.{ℕ}
use native.Mathlib.Omega.{arith}
use mathlib.Core.Path.{◌≡◌, refl, sym, ap, ◌∙◌}
use mathlib.Core.List.{List}
use lib.ListN.{length, take}
use lib.Seq.{take_at}
use Rattle.std.specs.Prelude.{Ok}
use Rattle.terms.specs.declared.Event.{Event}
use Rattle.terms.specs.declared.Settings.{Settings}
use Rattle.terms.specs.declared.Refusal.{Refusal}
use Rattle.terms.specs.Settings.{settings_verdict}
use Rattle.state_law.specs.Day.{opened}
use Rattle.engine_law.specs.Outcome.{after}
use Rattle.resume_law.specs.Answers.{Comeback, bad_at}
use Rattle.resume_law.specs.Saved.{saved, any_event, AllAccepted}
use Rattle.resume_law.specs.Rebuilt.{Rebuilt, rebuilt, resumed}
use Rattle.resume_law.specs.Comes.{FoundAs}
use Rattle.resume_law.specs.Comes.FoundAs.{settings_unfinished, settings_wrong, settings_refused, comes_back, line_wrong, line_refused}
use Rattle.resume_law.proofs.Finds.{any_bytes_found}

pub record Counted (bytes : List ℕ) (n : ℕ) : Type 0 where
  pub g : Settings
  pub es : List Event
  pub settings : settings_verdict g ≡ Ok tt
  pub accepted : AllAccepted (opened g) es
  pub lines : take n bytes ≡ saved g es
  pub comes : resumed bytes ≡ rebuilt (length (saved g es)) (any_event es) (after (opened g) es)

module _ (bytes : List ℕ) (n : ℕ) (answer : (resumed bytes).answer ≡ Ok n) where
  counts_are : {m : ℕ} → ◌≡◌ {A = Comeback} (Ok m) (Ok n) → n ≡ m
  counts_are q = cc

  refusing : {r : Refusal} {m : ℕ} → bad_at r m ≡ Ok n → ⊥
  refusing p = let z : ◌≡◌ {A = ℕ} 0 1 = cc in omega arith

  by : (y : Rebuilt) → FoundAs bytes y → resumed bytes ≡ y → Counted bytes n
  by y (settings_unfinished q) e = absurd (refusing (ap (λ (z : Rebuilt). z.answer) (sym e) ∙ answer))
  by y (settings_wrong m q) e = absurd (refusing (ap (λ (z : Rebuilt). z.answer) (sym e) ∙ answer))
  by y (settings_refused g line rest r q l v) e = absurd (refusing (ap (λ (z : Rebuilt). z.answer) (sym e) ∙ answer))
  by y (comes_back g es tail q v a u) e =
      let m : n ≡ length (saved g es) = counts_are (ap (λ (z : Rebuilt). z.answer) (sym e) ∙ answer) in
      record { g = g; es = es; settings = v; accepted = a; lines = ap (take n) q ∙ take_at (saved g es) tail n (sym m); comes = e }
  by y (line_wrong g es tail m q v a u) e = absurd (refusing (ap (λ (z : Rebuilt). z.answer) (sym e) ∙ answer))
  by y (line_refused g es f line tail r q l v a u) e = absurd (refusing (ap (λ (z : Rebuilt). z.answer) (sym e) ∙ answer))

  pub counted : Counted bytes n
  counted = by (resumed bytes) (any_bytes_found bytes) refl
