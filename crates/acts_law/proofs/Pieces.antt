-- A property of each report is proved piece by piece: for the clock steps, for an order with its trades and its remainder, for cancels.
-- This holds on any day, sound or not.
use Prim.Native.Nat.{ℕ, ◌+◌}
use native.Mathlib.Omega.{arith}
use mathlib.Core.Path.{◌≡◌, refl}
use mathlib.Core.Bool.{Bool, true, false}
use mathlib.Core.List.{List, [], ◌∷◌, ◌++◌}
use Rattle.terms.specs.declared.Closing.{Closing}
use Rattle.terms.specs.declared.Deal.{Deal}
use Rattle.terms.specs.declared.Ended.{Ended}
use Rattle.terms.specs.declared.Entry.{Entry}
use Rattle.terms.specs.declared.Order.{Order}
use Rattle.terms.specs.declared.Side.{Side}
use Rattle.terms.specs.declared.Report.{Report}
use Rattle.terms.specs.declared.Said.{Said}
use Rattle.terms.specs.declared.Said.TheVariants.{Accept, Trade, Convert, Cancel, Close}
use Rattle.terms.specs.declared.Why.{Why}
use Rattle.terms.specs.declared.Why.TheVariants.{DayEnd}
use Rattle.book_law.specs.declared.Fate.{Fate}
use Rattle.book_law.specs.declared.Fate.TheVariants.{Done, Rests, Turns, Ends}
use Rattle.book_law.specs.Matching.{Swept, report_at, deal_of, trade_reports, fate_reports}
use Rattle.book_law.specs.Told.{total}
use Rattle.state_law.specs.declared.Session.{Session}
use Rattle.acts_law.specs.Acts.{only, slab_moved, slab_report, ref_moved, ref_report, clock_reports, fate_in, entered, cancel_reports, close_report, finished}

-- each report has the property
unfoldable pub EachTold : (Report → Type 0) → List Report → Type 0
EachTold P [] = Unit {0}
EachTold P (r ∷ rs) = P r × EachTold P rs

module _ (P : Report → Type 0) where
  pub each_append : (xs ys : List Report) → EachTold P xs → EachTold P ys → EachTold P (xs ++ ys)
  unfolding EachTold
  each_append [] ys h k = k
  each_append (x ∷ xs) ys h k = (h.0, each_append xs ys h.1 k)

  pub each_one : (r : Report) → P r → EachTold P (r ∷ [])
  unfolding EachTold
  each_one r h = (h, tt)

  only_each : (b : Bool) (r : Report) → P r → EachTold P (only b r)
  unfolding EachTold
  only_each true r h = (h, tt)
  only_each false r h = tt

  pub clock_each : (s s' : Session) → P (slab_report s') → P (ref_report s') → EachTold P (clock_reports s s')
  unfolding clock_reports
  clock_each s s' slab ref =
      each_append (only (slab_moved s s') (slab_report s')) (only (ref_moved s s') (ref_report s'))
      (only_each (slab_moved s s') (slab_report s') slab)
      (only_each (ref_moved s s') (ref_report s') ref)

  pub trades_each : (time : ℕ) (side : Side) (number : ℕ) (fs : List Order) → ((deal : Deal) → P (report_at time (Trade deal))) →
      EachTold P (trade_reports time side number fs)
  unfolding EachTold trade_reports
  trades_each time side number [] trade = tt
  trades_each time side number (o ∷ os) trade = (trade (deal_of side number o), trades_each time side number os trade)

  pub fate_each : (time number left : ℕ) (fate : Fate) → ((o : Order) → P (report_at time (Convert o))) →
      ((e : Ended) → P (report_at time (Cancel e))) → EachTold P (fate_reports time number left fate)
  unfolding EachTold
  fate_each time number left Done convert cancel = tt
  fate_each time number left (Rests price) convert cancel = tt
  fate_each time number left (Turns price) convert cancel = (convert _, tt)
  fate_each time number left (Ends why) convert cancel = (cancel _, tt)

  pub entered_each : (s : Session) (n : Entry) (mine : List Order) (w : Swept) → ((number : ℕ) → P (report_at s.clock.time (Accept number))) →
      ((deal : Deal) → P (report_at s.clock.time (Trade deal))) → ((o : Order) → P (report_at s.clock.time (Convert o))) →
      ((e : Ended) → P (report_at s.clock.time (Cancel e))) → EachTold P (entered s n mine w).reports
  unfolding EachTold entered
  entered_each s n mine w accept trade convert cancel =
      let number : ℕ = s.live.given + 1 in
      let ts : List Report = trade_reports s.clock.time n.side number w.fills in
      let fs : List Report = fate_reports s.clock.time number w.left (fate_in s n w) in
      let remainder : EachTold P fs = fate_each s.clock.time number w.left (fate_in s n w) convert cancel in
      (accept number, each_append ts fs (trades_each s.clock.time n.side number w.fills trade) remainder)

  pub cancels_each : (why : Why) (time : ℕ) (os : List Order) → ((e : Ended) → P (report_at time (Cancel e))) → EachTold P (cancel_reports why time os)
  unfolding EachTold cancel_reports
  cancels_each why time [] cancel = tt
  cancels_each why time (o ∷ os) cancel = (cancel _, cancels_each why time os cancel)

  pub finished_each : (s : Session) (time settle : ℕ) (buys sells : List Order) → ((e : Ended) → P (report_at time (Cancel e))) →
      ((c : Closing) → P (report_at time (Close c))) → EachTold P (finished s time settle buys sells).reports
  unfolding EachTold finished
  finished_each s time settle buys sells cancel close =
      each_append (cancel_reports DayEnd time buys) (cancel_reports DayEnd time sells ++ (close_report s time settle ∷ [])) (cancels_each DayEnd time buys cancel)
      (each_append (cancel_reports DayEnd time sells) (close_report s time settle ∷ []) (cancels_each DayEnd time sells cancel) (close _, tt))

-- a sum to which none of the reports adds anything is 0
pub total-none : (f : Said → ℕ) (rs : List Report) → EachTold (λ r. f r.said ≡ 0) rs → total f rs ≡ 0
unfolding total EachTold
total-none f [] h = refl
total-none f (r ∷ rs) h = omega (arith, h.0, total-none f rs h.1)
