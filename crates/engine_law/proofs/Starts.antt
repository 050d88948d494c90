-- What an accepted event starts from: the session after the clock steps is within bounds, the tables are cleared, and the counter orders
-- can be traded.
use Prim.Native.Nat.{ℕ, ◌+◌, ◌*◌, ◌≤◌}
use native.Mathlib.Omega.{arith}
use mathlib.Core.Path.{◌≡◌}
use mathlib.Core.Bool.{true, false}
use mathlib.Core.List.{List}
use borrow.Author.Tests.{leb-true}
use lib.Dec.{ltb}
use lib.ListN.{length}
use Rattle.terms.specs.declared.Act.{Act}
use Rattle.terms.specs.Sizes.{slots, trades_before}
use Rattle.tables.specs.Lengths.{record_length}
use Rattle.terms.proofs.Logic.{or-last}
use Rattle.tables.specs.Tables.{decode}
use Rattle.tables.proofs.Whole.{After, cleared}
use Rattle.book_law.specs.Over.{Each}
use Rattle.book_law.proofs.Over.{each_map}
use Rattle.book_sound_law.proofs.Facts.{book-fits, each_fits}
use Rattle.state_law.specs.declared.Session.{Session}
use Rattle.state_law.specs.Now.{Clocked, band_now}
use Rattle.state_law.specs.Clock.{clock_step}
use Rattle.state_law.specs.Trades.{TradesFit}
use Rattle.state_law.specs.Day.{Day}
use Rattle.soundness_law.specs.Sound.{day_in}
use Rattle.soundness_law.proofs.Clocked.{session-clocked}
use Rattle.soundness_law.proofs.Border.{sound-session}
use Rattle.soundness_law.proofs.Parts.{parts_made}
use Rattle.soundness_law.proofs.Kept.{Tradable}
use Rattle.soundness_law.proofs.Days.{each_tradable}
use Rattle.terms.specs.Carried.{carries}
use Rattle.refusal_law.proofs.Accepted.{Accepted, accepted, time_right, in_day}
use Rattle.acts_law.specs.Acts.{clock_reports, stepped}
use Rattle.acts_law.specs.code.Written.{Deals}
use Rattle.acts_law.proofs.Stays as stays
use Rattle.acts_law.proofs.Few.{clock_few}
use Rattle.acts_law.proofs.Reports.{written-length}
use Rattle.engine_law.specs.Calls.{event_at, Ready}
use Rattle.engine_law.specs.declared.Begun.{Begun}
use Rattle.engine_law.specs.code.Steps.{Stepping, Begins, BegunAs}

deals_of : (tick : ℕ) (os : List _) → Each (Tradable tick) os → Each Deals os
deals_of tick os e = each_map (Tradable tick) Deals (λ o d. record { price_small = d.price_small; lots_some = d.lots_some; lots_small = d.lots_small }) os e

module _ {s : Session} {t : ℕ} {a : Act} {buys sells room : List ℕ} (r : Ready s t a buys sells room) where
  abbrev day : Day
  day = day_in s buys sells

  pub accepts : Accepted day (event_at t a)
  accepts = accepted day (event_at t a) r.fine

  clocked_now : Clocked s
  clocked_now = session-clocked s (sound-session day accepts.whole)

  forward : s.clock.time ≤ t
  forward = leb-true s.clock.time t accepts.forward

  module _ (o : (carries a).closes ≡ false) where
    in_hours_lem : ltb t s.settings.length ≡ true
    in_hours_lem = in_day day (event_at t a) accepts o

    start : stays.Ready (stepped day t).day
    start = stays.ready day t accepts.whole forward (time_right day (event_at t a) accepts) (or-last s.clock.closed (ltb t s.settings.length) (λ e. in_hours_lem))

    pub clocked-after : Clocked (clock_step s t)
    unfolding clock_step
    clocked-after = session-clocked (clock_step s t) (parts_made (clock_step s t) start.parts clocked_now.buys_few clocked_now.sells_few)

    -- ANY EVENT BUT THE CLOSE begins with the clock steps
    pub begins : Begins s t buys sells room
    begins =
        record {
          clocked = clocked_now;
          forward = forward;
          after = clocked-after;
          buys_long = r.buys_long;
          sells_long = r.sells_long;
          room_long = omega (arith, r.room_long);
        }

    -- there is place for the trades that a sweep of one side can make
    pub trades_fit : (k : ℕ) → k ≤ slots → s.tape.trades ≤ trades_before → TradesFit (clock_step s t) k
    unfolding clock_step
    trades_fit k h m =
        let p = start.parts in
        let c = clocked-after in
        record {
          long = c.valid.is_in_range.length_long;
          time_small = c.time_small;
          trades_few = omega arith;
          half_few = omega (arith, p.halved.few);
          minute_few = omega (arith, p.minuted.few);
          half_fits = omega (arith, p.halved.few, p.halved.lots_some, p.halved.lots_small, p.halved.value_small);
          minute_fits = omega (arith, p.minuted.few, p.minuted.sum_small);
        }

    pub buys-deal : Each Deals (decode s.live.buys buys)
    unfolding clock_step
    buys-deal =
        let s' : Session = clock_step s t in
        let b = book-fits s'.live.given s'.settings.tick (band_now s') day.buys day.sells start.book in
        deals_of s.settings.tick day.buys (each_tradable s' day.buys clocked-after.valid (each_fits s'.live.given s'.settings.tick (band_now s') day.buys b.each_buy))

    pub sells-deal : Each Deals (decode s.live.sells sells)
    unfolding clock_step
    sells-deal =
        let s' : Session = clock_step s t in
        let b = book-fits s'.live.given s'.settings.tick (band_now s') day.buys day.sells start.book in
        deals_of s.settings.tick day.sells (each_tradable s' day.sells clocked-after.valid (each_fits s'.live.given s'.settings.tick (band_now s') day.sells b.each_sell))

-- ---- the clock steps that code makes

module _ {s : Session} {t : ℕ} {buys sells room : List ℕ} (g : Begins s t buys sells room) where
  pub steps_in : {s' : Session} → s' ≡ clock_step s t → Stepping s s' buys sells room
  steps_in e =
      record {
        clocked = rw e g.after;
        buys_few = g.clocked.buys_few;
        sells_few = g.clocked.sells_few;
        buys_long = g.buys_long;
        sells_long = g.sells_long;
        room_long = g.room_long;
      }

-- what the clock steps leave in the tables and the room
module _ {s : Session} {t : ℕ} {buys sells room buys₁ sells₁ room₁ : List ℕ} {b : Begun} (k : BegunAs s t buys sells room buys₁ sells₁ room₁ b) where
  pub after-buys : After s.live.buys (decode s.live.buys buys) buys buys₁
  after-buys = cleared s.live.buys buys buys₁ k.stepped.bought k.could.clocked.buys_few k.could.buys_long

  pub after-sells : After s.live.sells (decode s.live.sells sells) sells sells₁
  after-sells = cleared s.live.sells sells sells₁ k.stepped.sold k.could.clocked.sells_few k.could.sells_long

  pub clock_space : 0 + record_length * length (clock_reports s b.session) ≤ length room
  clock_space = omega (arith, clock_few s b.session, k.could.room_long)

  pub same-room : length room₁ ≡ length room
  same-room = written-length room 0 (clock_reports s b.session) room₁ b.at k.stepped.told clock_space

  pub behind_clock : b.at ≤ record_length * 2
  behind_clock = omega (arith, k.stepped.told.behind, clock_few s b.session)
