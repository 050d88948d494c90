-- A text that is lent: its next bytes are copied, and behind the last is its end, or a read that fails.
use Prim.Native.Nat.{ℕ, zero, suc, ◌+◌, ◌-◌, ◌^◌, ◌≤◌, ◌<◌}
use native.Mathlib.Omega.{arith}
use mathlib.Core.Path.{◌≡◌, refl, sym, ap, ◌∙◌, subst}
use mathlib.Core.Bool.{Bool, true, false}
use mathlib.Core.List.{List, [], ◌++◌}
use lib.ListN.{length, take, drop, take-append-drop, drop_of_length-le}
use lib.Seq.{drop-drop}
use mir.Syntax.{w64}
use mir.Val.{Fits}
use Rattle.std.specs.Prelude.{Ok, Err}
use Rattle.descriptors.specs.declared.Failed.{Failed}
use Rattle.stream_law.specs.declared.Source.{Source}
use Rattle.stream_law.specs.Sources.{Gives, Leads}
use Rattle.stream_source.specs.declared.Read.{Read}
use Rattle.stream_source.specs.Reads.{read_to, CopiedAs, StandsBy, ReadAs}

-- ---- what a copy is for a source

module _ {given : List ℕ} {at : ℕ} {room' : List ℕ} {n : ℕ} (c : CopiedAs given at room' n) where
  -- the bytes that were copied, and those behind them, are those that were left
  seam : take n room' ++ drop (at + n) given ≡ drop at given
  seam = (λ i. c.front i ++ sym (drop-drop n at given) i) ∙ take-append-drop n (drop at given)

  text-leads : Leads given (Source.Text at) (take n room') (Source.Text (at + n))
  text-leads = record { behind = go }
    where
      go : (rest : List ℕ) (whole : Bool) → Gives given (Source.Text (at + n)) rest whole → Gives given (Source.Text at) (take n room' ++ rest) whole
      go rest true e = ap (λ (x : List ℕ). take n room' ++ x) e ∙ seam
      go rest false e = absurd e

  broken-leads : Leads given (Source.Broken at) (take n room') (Source.Broken (at + n))
  broken-leads = record { behind = go }
    where
      go : (rest : List ℕ) (whole : Bool) → Gives given (Source.Broken (at + n)) rest whole → Gives given (Source.Broken at) (take n room' ++ rest) whole
      go rest true e = absurd e
      go rest false e = ap (λ (x : List ℕ). take n room' ++ x) e ∙ seam

  pub copied_fits : at < 2 ^ 64 → length given < 2 ^ 64 → Fits w64 (at + n)
  copied_fits h l = record { fits = let k = c.count in omega arith }

  within : n ≤ length room'
  within = let k = c.count in omega arith

  -- nothing is left where nothing was copied, though there was room
  none_left : 0 < length room' → n ≡ 0 → [] ≡ drop (at + n) given
  none_left h z = sym (drop_of_length-le given {i = at + n} (let k = c.count in omega arith))

  text-stands : (m : ℕ) → n ≡ m → 0 < length room' → StandsBy given (Source.Text (at + n)) (Ok m)
  text-stands zero e h = none_left h e
  text-stands (suc m) e h = tt

  broken-stands : (m : ℕ) → n ≡ m → (n ≡ 0 → ⊥) → StandsBy given (Source.Broken (at + n)) (Ok m)
  broken-stands zero e h = absurd (h e)
  broken-stands (suc m) e h = tt

  pub text_read : {r : Read} → 0 < length room' → r ≡ read_to (Ok n) (Source.Text (at + n)) → ReadAs given (Source.Text at) room' r
  text_read {r} h e =
      subst (ReadAs given (Source.Text at) room') (sym e) (record { within = within; leads = text-leads; stands = text-stands n refl h })

  pub broken_read : {r : Read} → (n ≡ 0 → ⊥) → r ≡ read_to (Ok n) (Source.Broken (at + n)) → ReadAs given (Source.Broken at) room' r
  broken_read {r} h e =
      subst (ReadAs given (Source.Broken at) room') (sym e) (record { within = within; leads = broken-leads; stands = broken-stands n refl h })

  pub broken-end : {r : Read} {e : Failed} → 0 < length room' → n ≡ 0 → r ≡ read_to (Err e) (Source.Broken at) → ReadAs given (Source.Broken at) room' r
  broken-end {r} h z q =
      let at-end : at + n ≡ at = omega arith in
      subst (ReadAs given (Source.Broken at) room') (sym q)
      (record {
        within = tt;
        leads = record { behind = λ rest whole g. g };
        stands = none_left h z ∙ ap (λ (k : ℕ). drop k given) at-end;
      })
