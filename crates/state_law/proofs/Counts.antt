-- What a trade adds to the session, and what a minute's boundary makes of it: the reference of 002 and the half hour of 000.
use Prim.Native.Nat.{ℕ, ◌+◌, ◌*◌, ◌≤◌, ◌<◌}
use native.Mathlib.Omega.{arith}
use mathlib.Core.Path.{◌≡◌, refl, sym, ap}
use mathlib.Core.List.{List, [], ◌∷◌, ◌++◌}
use borrow.Author.Tests.{le-leb, lt-leb, ne_eqb}
use Rattle.terms.specs.declared.Order.{Order}
use Rattle.rules_law.specs.Growth.{theoretical}
use Rattle.rules_law.specs.declared.Reckoning.{Reckoning}
use Rattle.rules_law.specs.Reference.{theoretical_or, minute_after, quiet, boundaries, crossed, reckoned}
use Rattle.rules_law.specs.Close.{in_half_hour, tallied, last_or, tape_after}
use Rattle.rules_law.proofs.Circulars.{last_half_hour}
use Rattle.rules_law.proofs.Minutes.{RoundedDown, average_down, reckon_none, reckon_quiet}
use Rattle.rules_law.proofs.Tapes.{last_newest}
use Rattle.state_law.specs.declared.Session.{Session}
use Rattle.state_law.specs.Clock.{clock_step}
use Rattle.state_law.specs.Trades.{with_trade, with_trades}
use Rattle.state_law.specs.code.Tens.{Ten}

-- ---- a trade

-- it counts once in the minute's average, whatever its lots
pub once_in_the_minute : (s : Session) (price lots : ℕ) →
    ((with_trade s price lots).reckoning.minute.count ≡ s.reckoning.minute.count + 1)
    × ((with_trade s price lots).reckoning.minute.sum ≡ s.reckoning.minute.sum + price)
unfolding with_trade minute_after
once_in_the_minute s price lots = (refl, refl)

-- it counts by its lots in the half hour, if half an hour after it the day is at its length or past it;
pub late_trade : (s : Session) (price lots : ℕ) → s.settings.length ≤ s.clock.time + 30 * 60 * 1000 →
    (with_trade s price lots).tape.half ≡ tallied s.tape.half price lots
unfolding with_trade tape_after tallied
late_trade s price lots h = rw (last_half_hour s.settings.length s.clock.time, le-leb s.settings.length (s.clock.time + 30 * 60 * 1000) h)

-- an earlier trade does not count there
pub early_trade : (s : Session) (price lots : ℕ) → s.clock.time + 30 * 60 * 1000 < s.settings.length →
    (with_trade s price lots).tape.half ≡ s.tape.half
unfolding with_trade tape_after
early_trade s price lots h = rw (last_half_hour s.settings.length s.clock.time, lt-leb s.settings.length (s.clock.time + 30 * 60 * 1000) h)

-- it becomes the last trade
pub last-traded : (other : ℕ) (s : Session) (price lots : ℕ) → Ten s → last_or other (with_trade s price lots).tape ≡ price
unfolding with_trade
last-traded other s price lots ten = last_newest other s.tape (in_half_hour s.settings.length s.clock.time) price lots ten.prices

-- trades are applied in their order
pub trades-append : (s : Session) (xs ys : List Order) → with_trades s (xs ++ ys) ≡ with_trades (with_trades s xs) ys
unfolding with_trades
trades-append s [] ys = refl
trades-append s (x ∷ xs) ys = trades-append (with_trade s x.price x.lots) xs ys

-- ---- what the clock steps make of the reference

module _ (s : Session) (t : ℕ) where
  -- with no boundary crossed it stays
  pub minute_runs : crossed s.clock.time t ≡ 0 → (clock_step s t).reckoning ≡ s.reckoning
  unfolding clock_step
  minute_runs e = sym (reckon_none s.reckoning s.clock.under s.settings.days s.clock.time t e)

  -- at the boundary of a minute with trades: "the plain average of their prices, rounded down"
  pub minute_averaged : crossed s.clock.time t ≡ 1 → 1 ≤ s.reckoning.minute.count →
      RoundedDown s.reckoning.minute.sum s.reckoning.minute.count (clock_step s t).reckoning.reference
  unfolding clock_step reckoned boundaries
  minute_averaged e some = rw e (average_down s.clock.under s.settings.days s.reckoning some)

  -- at any boundaries after a minute without trades: "if an underlying is known, the theoretical price"
  pub minutes_quiet : (crossed s.clock.time t ≡ 0 → ⊥) → s.reckoning.minute.count ≡ 0 → 1 ≤ s.clock.under →
      (clock_step s t).reckoning.reference ≡ theoretical s.clock.under s.settings.days
  unfolding clock_step theoretical_or
  minutes_quiet n e some =
      ap (λ (r : Reckoning). r.reference)
      (sym (reckon_quiet s.reckoning s.clock.under s.settings.days s.clock.time t (quiet (theoretical s.clock.under s.settings.days)) _ refl
      (rw (ne_eqb s.clock.under 0 (λ z. omega arith))) n e))
