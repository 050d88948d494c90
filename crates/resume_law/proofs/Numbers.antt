-- Every number of accepted events and of settings that pass can be written, so each has its line.
use Prim.Native.Nat.{ℕ, ◌≤◌}
use native.Mathlib.Omega.{arith}
use mathlib.Core.Path.{◌≡◌, sym, ◌∙◌}
use mathlib.Core.Bool.{Bool, true}
use mathlib.Core.List.{List, ◌++◌}
use borrow.Author.Tests.{leb-true}
use Rattle.std.specs.Prelude.{Option, Some, None, Ok}
use Rattle.std.specs.Option.{option_to_list}
use Rattle.terms.specs.declared.Act.{Act}
use Rattle.terms.specs.declared.Event.{Event}
use Rattle.terms.specs.declared.Settings.{Settings}
use Rattle.terms.specs.Sizes.{price_most, lots_most, time_most, numbers_most, written_most}
use Rattle.terms.specs.Numbers.{is_price, is_lots, is_number, Writable}
use Rattle.terms.specs.Options.{of_any}
use Rattle.terms.specs.Carried.{carries}
use Rattle.terms.specs.Settings.{settings_verdict}
use Rattle.terms.proofs.Logic.{both, between_facts}
use Rattle.terms.proofs.Valid.{fine-valid}
use Rattle.lines_reading_law.specs.Lines.{act_figures, event_figures, settings_figures}
use Rattle.state_law.specs.Day.{Day}
use Rattle.refusal_law.specs.Refusals.{numbers_right}
use Rattle.refusal_law.proofs.Accepted.{accepted}
use Rattle.engine_law.specs.Outcome.{outcome}
use Rattle.engine_law.proofs.Kept.{outcome-verdict}

-- a number that may be missing, in front of others
perhaps-small : (test : ℕ → Bool) → ((x : ℕ) → test x ≡ true → x ≤ written_most) → (m : Option ℕ) (rest : List ℕ) → of_any test m ≡ true →
    Writable rest → Writable (option_to_list m ++ rest)
perhaps-small test small None rest h w = w
perhaps-small test small (Some x) rest h w = (small x h, w)

-- what an act carries is within its range, whatever the act
act-small : (a : Act) → numbers_right a ≡ true → Writable (act_figures a)
unfolding numbers_right
act-small a h =
    let p = both h in
    let q = both p.0 in
    perhaps-small is_number (λ x t. let n = between_facts 1 x numbers_most t in omega arith) (carries a).number _ p.1
    (perhaps-small is_lots (λ x t. let n = between_facts 1 x lots_most t in omega arith) (carries a).lots _ q.0
    (last (carries a).price q.1))
  where
    last : (m : Option ℕ) → of_any is_price m ≡ true → Writable (option_to_list m)
    last None t = tt
    last (Some x) t = let n = between_facts 1 x price_most t in (omega arith, tt)

pub accepted-writable : (d : Day) (e : Event) → (outcome d e).verdict ≡ Ok tt → Writable (event_figures e)
accepted-writable d e v =
    let r = both (accepted d e (sym (outcome-verdict d e) ∙ v)).ranged in
    let t : e.time ≤ time_most = leb-true e.time time_most r.0 in
    (omega arith, act-small e.act r.1)

pub settings-writable : (g : Settings) → settings_verdict g ≡ Ok tt → Writable (settings_figures g)
settings-writable g v =
    let w = fine-valid g v in
    (omega arith, (omega arith, (omega arith, (omega arith, (omega arith, (omega arith, (omega arith, tt)))))))
