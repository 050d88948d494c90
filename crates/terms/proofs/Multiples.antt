-- A price is a multiple of the tick exactly where price×factor÷scale, rounded down, times the tick gives the price back.
use Prim.Native.Nat.{ℕ, ◌+◌, ◌-◌, ◌*◌, ◌/◌, ◌%◌, ◌≤◌, ◌<◌}
use native.Mathlib.Omega.{arith}
use native.Mathlib.Nat.{mul-le-mul, mul-le-mul_left, mul-mod_left, div-le_self, div-add-mod', mod-lt, add-mul, one-mul, mul_assoc, mul_comm, mul-add}
use mir.Syntax.{w64}
use mir.Val.{Fits}
use mathlib.Core.Bool.{Bool, true, false}
use mathlib.Core.Path.{◌≡◌, refl, sym, ap, ◌∙◌}
use lib.Dec.{eqb}
use borrow.Author.Tests.{eq-eqb, ne_eqb, eqb-true, eqb-false}
use Rattle.terms.specs.Sizes.{tick_most}
use Rattle.terms.specs.Numbers.{on_tick}
use Rattle.terms.specs.code.Ticks.{scale, factor_of, Dividing}

abbrev below : ℕ
below = scale - 1

pub factor_fits : (tick : ℕ) → Fits w64 (below / tick + 1)
factor_fits tick = omega (arith, div-le_self below tick)

module _ (price tick factor : ℕ) (p : price < scale) (d : Dividing tick factor) where
  some : 1 ≤ tick
  some = d.tick_some

  small : tick ≤ tick_most
  small = d.tick_small

  e : factor ≡ factor_of tick
  e = d.factor_is

  wide : price * factor ≤ 4294967295 * 4294967297
  wide =
      let l : price ≤ 4294967295 = omega arith in
      let f : factor ≤ 4294967297 = omega (arith, div-le_self below tick) in
      mul-le-mul l f

  pub wide_fits : Fits w64 (price * factor)
  wide_fits = omega (arith, wide)

  pub back_fits : Fits w64 (price * factor / scale * tick)
  back_fits = let l : price * factor / scale ≤ 4294967295 = omega (arith, wide) in omega (arith, mul-le-mul l small)

  -- k×tick×factor is at least k×scale, and exceeds it by less than one scale
  exact : (k : ℕ) → price ≡ k * tick → price * factor / scale ≡ k
  exact k f =
      let a : below / tick * tick + below % tick ≡ below = div-add-mod' below tick in
      let r : below % tick < tick = mod-lt below some in
      let b : factor * tick ≡ below / tick * tick + tick = rw e (add-mul (below / tick) 1 tick ∙ ap (λ (z : ℕ). below / tick * tick + z) (one-mul tick)) in
      let c : price * factor ≡ k * (factor * tick) = rw f (omega (arith, mul_assoc k tick factor, mul_comm tick factor)) in
      let least : k * scale ≤ k * (factor * tick) = mul-le-mul_left k (omega arith) in
      let most : k * (factor * tick) ≤ k * (scale + tick) = mul-le-mul_left k (omega arith) in
      let w : k * (scale + tick) ≡ k * scale + k * tick = mul-add k scale tick in
      omega arith

  pub tick_is : eqb (price * factor / scale * tick) price ≡ on_tick tick price
  tick_is = tick_by (on_tick tick price) refl
    where
      tick_by : (c : Bool) → on_tick tick price ≡ c → eqb (price * factor / scale * tick) price ≡ c
      tick_by true f =
          let m : price % tick ≡ 0 = eqb-true (price % tick) 0 f in
          let g : price ≡ price / tick * tick = omega (arith, div-add-mod' price tick) in
          eq-eqb (price * factor / scale * tick) price (rw (exact (price / tick) g) (sym g))
      tick_by false f =
          ne_eqb (price * factor / scale * tick) price
          (λ g. eqb-false (price % tick) 0 f (ap (λ (z : ℕ). z % tick) (sym g) ∙ mul-mod_left (price * factor / scale) tick))
