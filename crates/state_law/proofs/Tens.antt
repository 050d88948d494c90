-- The arrays of a session have ten numbers when it is opened, and after each trade.
use Prim.Native.Nat.{ℕ}
use native.Mathlib.Omega.{arith}
use mathlib.Core.Path.{◌≡◌, refl, ◌∙◌}
use mathlib.Core.List.{List, [], ◌∷◌}
use lib.Dec.{ltb}
use lib.ListN.{length, length-append, length-take, length-drop, length-set}
use Rattle.std.specs.Prelude.{Ok, Err}
use Rattle.terms.specs.declared.Order.{Order}
use Rattle.terms.specs.declared.Settings.{Settings}
use Rattle.terms.specs.Refusals.{Verdict}
use Rattle.terms.specs.Settings.{settings_verdict}
use Rattle.terms.proofs.Logic.{by}
use Rattle.rules_law.specs.Close.{remembered, tape_after}
use Rattle.state_law.specs.declared.Session.{Session}
use Rattle.state_law.specs.Opening.{opened_session, fixed_session, opened_by, opening_of}
use Rattle.state_law.specs.Trades.{with_trade, with_trades}
use Rattle.state_law.specs.code.Tens.{Ten}

-- ---- trades

still_ten : (old : List ℕ) (n x : ℕ) → length old ≡ 10 → length (remembered old n x) ≡ 10
unfolding remembered
still_ten old n x h =
    by (λ (l : List ℕ). length l ≡ 10) (ltb n 10) _ _
    (λ e. length-set old n x ∙ h)
    (λ e. simp (length-append, length-drop, length-take) (omega arith))

trade_ten : (s : Session) (price lots : ℕ) → Ten s → Ten (with_trade s price lots)
unfolding with_trade tape_after
trade_ten s price lots t =
    record {
      prices = still_ten s.tape.prices s.tape.trades price t.prices;
      sizes = still_ten s.tape.sizes s.tape.trades lots t.sizes;
    }

pub trades_ten : (s : Session) (fs : List Order) → Ten s → Ten (with_trades s fs)
unfolding with_trades
trades_ten s [] t = t
trades_ten s (f ∷ fs) t = trades_ten (with_trade s f.price f.lots) fs (trade_ten s f.price f.lots t)

-- ---- openings

pub fixed_ten : Ten fixed_session
unfolding fixed_session
fixed_ten = record { prices = refl; sizes = refl }

pub opening_ten : (g : Settings) → Ten (opening_of g).session
unfolding opening_of opened_session
opening_ten g = go (settings_verdict g)
  where
    go : (v : Verdict) → Ten (opened_by g v).session
    go (Ok _) = record { prices = refl; sizes = refl }
    go (Err r) = fixed_ten
