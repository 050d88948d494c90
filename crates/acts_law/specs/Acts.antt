-- Document 01, "Events": what an accepted event does to a day, and its reports in the order in which they stand.
use Rattle.std.specs.Prelude.{ℕ, ◌+◌, Bool, true, false, cond, not, List, [], ◌∷◌, ◌++◌, eqb}
use Rattle.terms.specs.declared.Act.{Act}
use Rattle.terms.specs.declared.Act.TheVariants.{Enter, Withdraw, Under, Clock, Finish}
use Rattle.terms.specs.declared.Entry.{Entry}
use Rattle.terms.specs.declared.Event.{Event}
use Rattle.terms.specs.declared.Order.{Order}
use Rattle.terms.specs.declared.Report.{Report}
use Rattle.terms.specs.declared.Said.TheVariants.{Accept, Cancel, Slab, Ref, Close}
use Rattle.terms.specs.declared.Side.{Side}
use Rattle.terms.specs.declared.Side.TheVariants.{Buy, Sell}
use Rattle.terms.specs.declared.Why.{Why}
use Rattle.terms.specs.declared.Why.TheVariants.{Asked, DayEnd}
use Rattle.rules_law.specs.Close.{last_or, closing_of}
use Rattle.book_law.specs.Priority.{rests, removed, left_of}
use Rattle.book_law.specs.declared.Fate.{Fate}
use Rattle.book_law.specs.Matching.{taker, Swept, sweep, report_at, trade_reports, fate_of, settled, fate_reports}
use Rattle.state_law.specs.declared.Session.{Session}
use Rattle.state_law.specs.Set.{set_time, set_closed, set_under, set_given}
use Rattle.state_law.specs.Now.{percent_now, band_now, range_now}
use Rattle.state_law.specs.Clock.{clock_step}
use Rattle.state_law.specs.Trades.{with_trades}
use Rattle.state_law.specs.Day.{Day, day_of, day_by, stepped_day, own, across, day_with}
use Rattle.terms.specs.Carried.{carries}

-- the day that an act leaves, and the reports that it tells
pub record Acted : Type 0 where
  pub day : Day
  pub reports : List Report

-- ---- the reports of the clock steps

abbrev pub only : Bool → Report → List Report
only true r = r ∷ []
only false r = []

-- "slab (when the percent changed)"
abbrev pub slab_moved : Session → Session → Bool
slab_moved s s' = not (eqb (percent_now s) (percent_now s'))

abbrev pub slab_report : Session → Report
slab_report s = report_at s.clock.time (Slab (band_now s))

-- "ref (only if the value changed over the event)"
abbrev pub ref_moved : Session → Session → Bool
ref_moved s s' = not (eqb s.reckoning.reference s'.reckoning.reference)

abbrev pub ref_report : Session → Report
ref_report s = report_at s.clock.time (Ref s.reckoning.reference)

unfoldable pub clock_reports : Session → Session → List Report
clock_reports s s' = only (slab_moved s s') (slab_report s') ++ only (ref_moved s s') (ref_report s')

-- ---- an order

-- the order is matched with the orders across
unfoldable pub sweep_in : Session → Entry → List Order → Swept
sweep_in s n theirs = sweep (taker n.side n.kind (range_now s)) 0 n.lots theirs

-- "if it had none, at the session's last trade price, else at previous settlement"
abbrev pub last_in : Session → ℕ
last_in s = last_or s.settings.settle s.tape

unfoldable pub fate_in : Session → Entry → Swept → Fate
fate_in s n w = fate_of n.life n.kind (band_now s) (last_in s) w

-- "accept, trades, then convert or cancel"
unfoldable pub entered : Session → Entry → List Order → Swept → Acted
entered s n mine w =
    let number : ℕ = s.live.given + 1 in
    let fate : Fate = fate_in s n w in
    record {
      day = day_with n.side (with_trades (set_given s number) w.fills) (settled n.side number w.left fate mine) w.rest;
      reports =
          report_at s.clock.time (Accept number)
          ∷ (trade_reports s.clock.time n.side number w.fills ++ fate_reports s.clock.time number w.left fate);
    }

-- ---- a cancel

abbrev pub ended : ℕ → ℕ → ℕ → Why → Report
ended time number lots why = report_at time (Cancel (record { number = number; lots = lots; why = why }))

-- a resting order leaves its side, and its cancel is told with a reason
unfoldable pub dropped : Session → ℕ → Why → Side → List Order → List Order → Acted
dropped s number why side mine theirs =
    record {
      day = day_with side s (removed number mine) theirs;
      reports = ended s.clock.time number (left_of number mine) why ∷ [];
    }

-- the side on which an order rests, given the buys: it is among these, or else among the sells
abbrev pub side_of : ℕ → List Order → Side
side_of number buys = cond (rests number buys) Buy Sell

-- "Cancel removes a resting order, why 1."
abbrev pub withdrawn : Day → ℕ → Acted
withdrawn d number =
    let side : Side = side_of number d.buys in
    dropped d.session number Asked side (own side d) (across side d)

-- ---- under and clock: "Under and clock have no report of their own."

abbrev pub silent : Session → Day → Acted
silent s d = record { day = day_of s d.buys d.sells; reports = [] }

-- ---- the close

-- the cancels of a side's orders, in priority order, with a reason
unfoldable pub cancel_reports : Why → ℕ → List Order → List Report
cancel_reports why time [] = []
cancel_reports why time (o ∷ os) = ended time o.number o.lots why ∷ cancel_reports why time os

abbrev pub close_report : Session → ℕ → ℕ → Report
close_report s time settle = report_at time (Close (closing_of s.settings.tick s.settings.close s.tape settle))

-- "It cancels all, buys then sells in priority order, why 5, then reports close price and next base. The close event carries today's
-- settlement price."
unfoldable pub finished : Session → ℕ → ℕ → List Order → List Order → Acted
finished s time settle buys sells =
    record {
      day = day_of (set_closed (set_time s time) true) [] [];
      reports = cancel_reports DayEnd time buys ++ (cancel_reports DayEnd time sells ++ (close_report s time settle ∷ []));
    }

-- ---- an accepted event

-- one thing is done, and then another on the day that the first one left
abbrev pub and_then : Acted → Acted → Acted
and_then a b = record { day = b.day; reports = a.reports ++ b.reports }

-- the clock steps are made, and their reports told
abbrev pub stepped : Day → ℕ → Acted
stepped d t = record { day = stepped_day d t; reports = clock_reports d.session (clock_step d.session t) }

-- the time moves on, and nothing else changes
abbrev pub timed : Day → ℕ → Acted
timed d t = record { day = day_by (set_time d.session t) d; reports = [] }

-- what comes before the act: "Close applies no slab or reference step."
abbrev pub begun : Day → ℕ → Act → Acted
begun d t a = cond (carries a).closes (timed d t) (stepped d t)

-- the act itself, on the day as it stands at the event's time
abbrev pub does : Day → Act → Acted
does d (Enter n) = entered d.session n (own n.side d) (sweep_in d.session n (across n.side d))
does d (Withdraw number) = withdrawn d number
does d (Under price) = silent (set_under d.session price) d
does d Clock = silent d.session d
does d (Finish settle) = finished d.session d.session.clock.time settle d.buys d.sells

unfoldable pub act : Day → Event → Acted
act d e = let b : Acted = begun d e.time e.act in and_then b (does b.day e.act)
