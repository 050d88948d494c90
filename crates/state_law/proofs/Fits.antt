-- After a trade there is room for one trade less, and the band is as it was. A session within bounds has a range within bounds.
use Prim.Native.Nat.{ℕ, ◌+◌, ◌*◌, ◌≤◌}
use native.Mathlib.Omega.{arith}
use native.Mathlib.Nat.{mul-le-mul_right}
use mathlib.Core.Path.{◌≡◌, refl}
use mathlib.Core.Bool.{Bool, true, false}
use Rattle.terms.specs.Sizes.{price_most, lots_most, trades_most}
use Rattle.rules_law.specs.declared.Range.{Range}
use Rattle.rules_law.specs.declared.Tally.{Tally}
use Rattle.rules_law.specs.Reference.{minute_after, RangeFits}
use Rattle.rules_law.specs.Close.{in_half_hour, tallied, half_after, tape_after, TallyFits}
use Rattle.rules_law.proofs.Rows.{row_small}
use Rattle.state_law.specs.declared.Session.{Session}
use Rattle.state_law.specs.Now.{Clocked, band_now, range_now}
use Rattle.state_law.specs.Trades.{with_trade, TradesFit}

pub record HalfFits (h : Tally) (more : ℕ) : Type 0 where
  pub few : h.count + more ≤ trades_most
  pub fits : TallyFits h

half_after_lem : (late : Bool) (h : Tally) (more price lots : ℕ) → TallyFits h → h.count + (more + 1) ≤ trades_most → price ≤ price_most → 1 ≤ lots → lots ≤ lots_most → HalfFits (half_after h late price lots) more
unfolding tallied
half_after_lem true h more price lots f c p l m = let v : price * lots ≤ price_most * lots = mul-le-mul_right lots p in omega arith
half_after_lem false h more price lots f c p l m = omega arith

pub fits_after : (s : Session) (more price lots : ℕ) → TradesFit s (more + 1) → price ≤ price_most → 1 ≤ lots → lots ≤ lots_most → TradesFit (with_trade s price lots) more
unfolding with_trade tape_after minute_after
fits_after s more price lots f p l m =
    let h = half_after_lem (in_half_hour s.settings.length s.clock.time) s.tape.half more price lots f.half_fits f.half_few p l m in
    omega arith

pub band-kept : (s : Session) (price lots : ℕ) → band_now (with_trade s price lots) ≡ band_now s
unfolding with_trade
band-kept s price lots = refl

-- the tick of such a session is at least 1, so that the code may divide by it
pub tick_some : (s : Session) → Clocked s → 1 ≤ s.settings.tick
tick_some s c = c.valid.is_in_range.tick_some

pub range-fits : (s : Session) (r : Range) → Clocked s → r ≡ range_now s → RangeFits r
range-fits s r c e = rw e (record { percent_small = omega (arith, row_small s.settings.category); reference_small = c.reference_small })
