-- What the clock steps leave as it was, and what trades leave as it was.
use Prim.Native.Nat.{ℕ, ◌+◌}
use borrow.Author.Tests.{eq-eqb, not-true}
use mathlib.Core.Path.{◌≡◌, refl}
use mathlib.Core.Bool.{true, false, not}
use mathlib.Core.List.{List, [], ◌∷◌}
use lib.Dec.{eqb}
use Rattle.terms.specs.declared.Order.{Order}
use Rattle.terms.proofs.Logic.{cases, cond_false, no_both}
use Rattle.rules_law.specs.Slabs.{over_by}
use Rattle.state_law.specs.declared.Session.{Session}
use Rattle.state_law.specs.Now.{percent_now}
use Rattle.state_law.specs.Clock.{widened_by, clock_step}
use Rattle.state_law.specs.Trades.{with_trade, with_trades}

-- ---- the clock steps change the time, the slab and the reference, and nothing else

pub record Stepped (s : Session) (t : ℕ) (s' : Session) : Type 0 where
  pub time : s'.clock.time ≡ t
  pub settings : s'.settings ≡ s.settings
  pub closed : s'.clock.closed ≡ s.clock.closed
  pub live : (s'.live.buys ≡ s.live.buys) × (s'.live.sells ≡ s.live.sells)
  pub underlying : s'.clock.under ≡ s.clock.under
  pub given : s'.live.given ≡ s.live.given
  pub tape : s'.tape ≡ s.tape

pub clock_leaves : (s : Session) (t : ℕ) → Stepped s t (clock_step s t)
unfolding clock_step
clock_leaves s t = record { time = refl; settings = refl; closed = refl; live = (refl, refl); underlying = refl; given = refl; tape = refl }

-- the band is widened only where a cooling-off is over
widened_same : (widened cooling t : ℕ) → over_by cooling t ≡ false → widened_by widened cooling t ≡ widened
unfolding widened_by
widened_same widened cooling t e = cond_false (over_by cooling t) (widened + 1) widened e

-- and so the percent changes only there
pub percent_changes : (s : Session) (t : ℕ) → not (eqb (percent_now s) (percent_now (clock_step s t))) ≡ true → over_by s.clock.cooling t ≡ true
unfolding clock_step
percent_changes s t h =
    let p : ℕ = percent_now s in
    cases (over_by s.clock.cooling t)
    (λ e. e)
    (λ e. let z : not (eqb p p) ≡ true = rw (widened_same s.clock.widened s.clock.cooling t e) at h in
    no_both (eqb p p) (eq-eqb p p refl) (not-true _ z))

-- ---- trades leave all but the cooling-off, the minute and the tape

pub record Untouched (s s' : Session) : Type 0 where
  pub settings : s'.settings ≡ s.settings
  pub time : s'.clock.time ≡ s.clock.time
  pub closed : s'.clock.closed ≡ s.clock.closed
  pub widened : s'.clock.widened ≡ s.clock.widened
  pub under : s'.clock.under ≡ s.clock.under
  pub reference : s'.reckoning.reference ≡ s.reckoning.reference
  pub buys : s'.live.buys ≡ s.live.buys
  pub sells : s'.live.sells ≡ s.live.sells
  pub given : s'.live.given ≡ s.live.given

pub trades_leave : (s : Session) (fills : List Order) → Untouched s (with_trades s fills)
unfolding with_trades with_trade
trades_leave s [] =
    record { settings = refl; time = refl; closed = refl; widened = refl; under = refl; reference = refl; buys = refl; sells = refl; given = refl }
trades_leave s (f ∷ fs) =
    let u : Untouched (with_trade s f.price f.lots) (with_trades (with_trade s f.price f.lots) fs) =
    trades_leave (with_trade s f.price f.lots) fs in
    record {
      settings = u.settings;
      time = u.time;
      closed = u.closed;
      widened = u.widened;
      under = u.under;
      reference = u.reference;
      buys = u.buys;
      sells = u.sells;
      given = u.given;
    }
