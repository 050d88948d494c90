-- How settings are judged: what 12 and 13 let pass, and that 12 comes before 13.
use Prim.Native.Nat.{ℕ}
use native.Mathlib.Omega.{arith}
use mathlib.Core.Path.{◌≡◌}
use mathlib.Core.Bool.{true, false}
use borrow.Author.Tests.{leb-true, le-leb}
use Rattle.terms.specs.declared.Settings.{Settings}
use Rattle.std.specs.Prelude.{Ok}
use Rattle.terms.specs.Sizes.{base_most, tick_most, length_least, time_most, days_most, price_most}
use Rattle.terms.specs.Refusals.{first_failed, code_of}
use Rattle.terms.specs.Settings.{settings_ranged, settings_ticked, settings_valid, settings_verdict, Ranged, Valid}
use Rattle.terms.proofs.Logic.{cases, both, make, between_facts, between_make}
use Rattle.terms.proofs.Cascade.{fine-first}

pub ranged : (g : Settings) → settings_ranged g ≡ true → Ranged g
unfolding settings_ranged
ranged g h =
    let under = both h in
    let days = both under.0 in
    let long = both days.0 in
    let ticks = both long.0 in
    let settle = both ticks.0 in
    let close = both settle.0 in
    let base = between_facts 1 g.base base_most close.0 in
    let closes = between_facts 1 g.close price_most close.1 in
    let settles = between_facts 1 g.settle price_most settle.1 in
    let tick = between_facts 1 g.tick tick_most ticks.1 in
    let length = between_facts length_least g.length time_most long.1 in
    record {
      base_some = base.0;
      base_small = base.1;
      close_some = closes.0;
      close_small = closes.1;
      settle_some = settles.0;
      settle_small = settles.1;
      tick_some = tick.0;
      tick_small = tick.1;
      length_long = length.0;
      length_small = length.1;
      days_small = leb-true _ _ days.1;
      under_small = leb-true _ _ under.1;
    }

-- and settings whose numbers are all within their ranges pass 12
pub ranged_pass : (g : Settings) → Ranged g → settings_ranged g ≡ true
unfolding settings_ranged
ranged_pass g r =
    make (make (make (make (make (make
    (between_make 1 g.base base_most r.base_some r.base_small)
    (between_make 1 g.close price_most r.close_some r.close_small))
    (between_make 1 g.settle price_most r.settle_some r.settle_small))
    (between_make 1 g.tick tick_most r.tick_some r.tick_small))
    (between_make length_least g.length time_most r.length_long r.length_small))
    (le-leb g.days days_most r.days_small))
    (le-leb g.under price_most r.under_small)

pub facts : (g : Settings) → settings_ranged g ≡ true → settings_ticked g ≡ true → Valid g
unfolding settings_ticked
facts g h k =
    let last = both k in
    let first = both last.0 in
    record { is_in_range = ranged g h; base_ticked = first.0; close_ticked = first.1; settle_ticked = last.1 }

-- ---- "first that applies": 12, then 13

-- settings with a number out of its range are answered 12, whatever else is wrong with them,
pub twelve_first : (g : Settings) → settings_ranged g ≡ false → code_of (settings_verdict g) ≡ 12
unfolding settings_verdict first_failed
twelve_first g e = rw e

-- and 13 is answered only where every number is in its range
pub thirteen_in_range : (g : Settings) → code_of (settings_verdict g) ≡ 13 → Ranged g × (settings_ticked g ≡ false)
unfolding settings_verdict first_failed
thirteen_in_range g h =
    cases (settings_ranged g)
    (λ r. cases (settings_ticked g)
    (λ t. absurd (let z : ◌≡◌ {A = ℕ} 0 13 = rw (r, t) at h in omega arith))
    (λ t. (ranged g r, t)))
    (λ r. absurd (let z : ◌≡◌ {A = ℕ} 12 13 = rw r at h in omega arith))

-- ---- valid settings

-- settings that no refusal applies to are valid
pub fine-valid : (g : Settings) → settings_verdict g ≡ Ok tt → Valid g
unfolding settings_verdict
fine-valid g e =
    let r = fine-first _ (settings_ranged g) _ e in
    let t = fine-first _ (settings_ticked g) _ r.1 in
    facts g r.0 t.0

-- and so are settings that are judged valid
pub valid_facts : (g : Settings) → settings_valid g ≡ true → Valid g
unfolding settings_valid
valid_facts g e = let p = both e in facts g p.0 p.1
