-- What is in force when an order is judged: its own limit and mark, the last trade price or the previous settlement, the band after the clock
-- steps. A new underlying counts from the next boundary on.
use Prim.Native.Nat.{ℕ, ◌≤◌}
use mathlib.Core.Path.{◌≡◌, refl}
use mathlib.Core.Bool.{true, false}
use mathlib.Core.List.{List, append-nil}
use borrow.Author.Tests.{eq-eqb}
use Rattle.terms.specs.declared.Act.TheVariants.{Under, Clock}
use Rattle.terms.specs.declared.Entry.{Entry}
use Rattle.terms.specs.declared.Kind.TheVariants.{Limit, Market}
use Rattle.terms.specs.declared.Life.{Life}
use Rattle.terms.specs.declared.Life.TheVariants.{AllDay}
use Rattle.terms.specs.declared.Order.{Order}
use Rattle.terms.specs.declared.Side.{Side}
use Rattle.rules_law.specs.Slabs.{in_band}
use Rattle.rules_law.specs.Close.{last_or}
use Rattle.book_law.specs.declared.Fate.TheVariants.{Turns}
use Rattle.book_law.specs.Matching.{Swept, own_last_or}
use Rattle.book_law.specs.Over.{EachPrice}
use Rattle.book_law.proofs.Fates.{why_number, market_turns, why_four}
use Rattle.book_law.proofs.Fills.{WithinLimit, limit-kept, Positive, WithinFirst, market_within}
use Rattle.state_law.specs.declared.Session.{Session}
use Rattle.state_law.specs.Now.{band_now}
use Rattle.state_law.specs.Clock.{clock_step}
use Rattle.state_law.specs.Trades.{with_trade}
use Rattle.state_law.specs.code.Tens.{Ten}
use Rattle.state_law.specs.Day.{Day, day_of}
use Rattle.state_law.proofs.Counts.{last-traded}
use Rattle.acts_law.specs.Acts.{clock_reports, sweep_in, last_in, fate_in, act}

-- ---- "at the session's last trade price, else at previous settlement"

pub last_settlement : (s : Session) → s.tape.trades ≡ 0 → last_in s ≡ s.settings.settle
unfolding last_or
last_settlement s e = rw (eq-eqb s.tape.trades 0 e)

pub last_trade : (s : Session) (price lots : ℕ) → Ten s → last_in (with_trade s price lots) ≡ price
last_trade s price lots ten = last-traded _ s price lots ten

-- ---- the trades of an order are within its own limit, or within the mark that is measured from its own first trade

pub within-limit : (s : Session) (side : Side) (limit : ℕ) (life : Life) (lots : ℕ) (theirs : List Order) →
    EachPrice (WithinLimit side limit) (sweep_in s (record { side = side; kind = Limit limit; life = life; lots = lots }) theirs).fills
unfolding sweep_in
within-limit s side limit life lots theirs = limit-kept side limit _ lots theirs

pub within-mark : (s : Session) (side : Side) (life : Life) (lots : ℕ) (theirs : List Order) → Positive theirs →
    WithinFirst side (sweep_in s (record { side = side; kind = Market; life = life; lots = lots }) theirs).fills
unfolding sweep_in
within-mark s side life lots theirs p = market_within side _ lots theirs p

-- ---- a day market order's remainder is judged by the session's band: "If that price is outside the band it is cancelled, why 4."

abbrev day_market : Side → ℕ → Entry
day_market side lots = record { side = side; kind = Market; life = AllDay; lots = lots }

module _ (s : Session) (side : Side) (lots : ℕ) (w : Swept) (left : 1 ≤ w.left) (ranged : w.out ≡ false) where
  pub turns_inside : in_band (band_now s) (own_last_or (last_in s) w.fills) ≡ true →
      fate_in s (day_market side lots) w ≡ Turns (own_last_or (last_in s) w.fills)
  unfolding fate_in
  turns_inside e = market_turns (band_now s) (last_in s) w left ranged e

  pub ends_outside : in_band (band_now s) (own_last_or (last_in s) w.fills) ≡ false → why_number (fate_in s (day_market side lots) w) ≡ 4
  unfolding fate_in
  ends_outside e = why_four (band_now s) (last_in s) w left ranged e

-- ---- "under (a new underlying, at least 1)": it is known at once, and moves the reference only at the next boundary

pub under_waits : (d : Day) (t price : ℕ) →
    ((act d (record { time = t; act = Under price })).day.session.clock.under ≡ price)
    × ((act d (record { time = t; act = Under price })).day.session.reckoning ≡ (clock_step d.session t).reckoning)
unfolding act
under_waits d t price = (refl, refl)

-- ---- "Under and clock have no report of their own": a clock event makes the clock steps and does nothing else

pub clock_only : (d : Day) (t : ℕ) →
    ((act d (record { time = t; act = Clock })).day ≡ day_of (clock_step d.session t) d.buys d.sells)
    × ((act d (record { time = t; act = Clock })).reports ≡ clock_reports d.session (clock_step d.session t))
unfolding act
clock_only d t = (refl, append-nil (clock_reports d.session (clock_step d.session t)))
