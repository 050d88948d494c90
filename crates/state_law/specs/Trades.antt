-- What a trade changes in the session: the cooling-off, the minute and the tape.
use Rattle.std.specs.Prelude.{ℕ, ◌+◌, ◌≤◌, List, [], ◌∷◌}
use Rattle.terms.specs.declared.Order.{Order}
use Rattle.terms.specs.Sizes.{length_least, time_most, trades_most}
use Rattle.rules_law.specs.Slabs.{cooling_after}
use Rattle.rules_law.specs.Reference.{minute_after, MinuteFits}
use Rattle.rules_law.specs.Close.{in_half_hour, tape_after, TallyFits}
use Rattle.state_law.specs.declared.Session.{Session}
use Rattle.state_law.specs.Set.{cooling_set}
use Rattle.state_law.specs.Now.{band_now}

unfoldable pub with_trade : Session → ℕ → ℕ → Session
with_trade s price lots =
    record {
      settings = s.settings;
      clock = cooling_set s.clock (cooling_after s.clock.widened s.clock.cooling s.clock.time (band_now s) price);
      live = s.live;
      reckoning = record { reference = s.reckoning.reference; minute = minute_after s.reckoning.minute price };
      tape = tape_after s.tape (in_half_hour s.settings.length s.clock.time) price lots;
    }

-- the session after all of these fills
unfoldable pub with_trades : Session → List Order → Session
with_trades s [] = s
with_trades s (f ∷ fs) = with_trades (with_trade s f.price f.lots) fs

-- a session can take so many more trades without an overflow
pub record TradesFit (s : Session) (more : ℕ) : Type 0 where
  pub long : length_least ≤ s.settings.length
  pub time_small : s.clock.time ≤ time_most
  pub trades_few : s.tape.trades + more ≤ trades_most
  pub half_few : s.tape.half.count + more ≤ trades_most
  pub minute_few : s.reckoning.minute.count + more ≤ trades_most
  pub half_fits : TallyFits s.tape.half
  pub minute_fits : MinuteFits s.reckoning.minute
