-- What the close and a cancel tell and leave. "Close applies no slab or reference step. It cancels all, buys then sells in priority order,
-- why 5, then reports close price and next base." "Cancel removes a resting order, why 1."
use Prim.Native.Nat.{ℕ}
use mathlib.Core.Path.{◌≡◌, refl, sym, ap, ◌∙◌}
use mathlib.Core.Bool.{true, false}
use mathlib.Core.List.{List, [], ◌∷◌, ◌++◌, map, append_assoc, append-nil}
use Rattle.std.specs.Option.{option_map_or}
use Rattle.terms.specs.declared.Act.TheVariants.{Withdraw, Finish}
use Rattle.terms.specs.declared.Event.{Event}
use Rattle.terms.specs.declared.Order.{Order}
use Rattle.terms.specs.declared.Report.{Report}
use Rattle.terms.specs.declared.Said.{Said}
use Rattle.terms.specs.declared.Said.TheVariants.{Close}
use Rattle.terms.specs.declared.Why.TheVariants.{DayEnd}
use Rattle.terms.specs.Reports.{why_of}
use Rattle.rules_law.specs.Close.{closing_of}
use Rattle.book_law.specs.Matching.{report_at}
use Rattle.book_law.specs.Priority.{rests, removed, left_of}
use Rattle.book_law.specs.Tells.{tells}
use Rattle.state_law.specs.Day.{Day}
use Rattle.acts_law.specs.Acts.{Acted, dropped, cancel_reports, close_report, finished, does, act}

-- ---- the cancels that reports tell, in their order: number, lots and the paper's number of the reason

abbrev pub cancel_in : Said → List (List ℕ)
cancel_in x = option_map_or (λ e. (e.number ∷ e.lots ∷ why_of e.why ∷ []) ∷ []) (tells x).ended []

unfoldable pub cancels_told : List Report → List (List ℕ)
cancels_told [] = []
cancels_told (r ∷ rs) = cancel_in r.said ++ cancels_told rs

told-append : (xs ys : List Report) → cancels_told (xs ++ ys) ≡ cancels_told xs ++ cancels_told ys
unfolding cancels_told
told-append [] ys = refl
told-append (x ∷ xs) ys =
    ap (λ (l : List (List ℕ)). cancel_in x.said ++ l) (told-append xs ys)
    ∙ sym (append_assoc (cancel_in x.said) (cancels_told xs) (cancels_told ys))

-- ---- a cancel

-- "Cancel removes a resting order, why 1.": the one cancel that is told, and the orders that are left
pub record Cancelled (number lots : ℕ) (a : Acted) (buys sells : List Order) : Type 0 where
  pub told : cancels_told a.reports ≡ (number ∷ lots ∷ 1 ∷ []) ∷ []
  pub bought : a.day.buys ≡ buys
  pub sold : a.day.sells ≡ sells

-- the order goes from the buys, if it rests there,
pub cancels_buy : (d : Day) (number : ℕ) → rests number d.buys ≡ true →
    Cancelled number (left_of number d.buys) (does d (Withdraw number)) (removed number d.buys) d.sells
unfolding cancels_told dropped
cancels_buy d number e = rw e (record { told = refl; bought = refl; sold = refl })

-- or else from the sells
pub cancels_sell : (d : Day) (number : ℕ) → rests number d.buys ≡ false →
    Cancelled number (left_of number d.sells) (does d (Withdraw number)) d.buys (removed number d.sells)
unfolding cancels_told dropped
cancels_sell d number e = rw e (record { told = refl; bought = refl; sold = refl })

-- ---- the close

-- a cancel at the close, as it is told: number, lots, why 5
abbrev pub ends_today : Order → List ℕ
ends_today o = o.number ∷ o.lots ∷ 5 ∷ []

each_told : (time : ℕ) (os : List Order) → cancels_told (cancel_reports DayEnd time os) ≡ map ends_today os
unfolding cancels_told cancel_reports
each_told time [] = refl
each_told time (o ∷ os) = ap (λ (l : List (List ℕ)). ends_today o ∷ l) (each_told time os)

map-append : (xs ys : List Order) → map ends_today (xs ++ ys) ≡ map ends_today xs ++ map ends_today ys
map-append [] ys = refl
map-append (x ∷ xs) ys = ap (λ (l : List (List ℕ)). ends_today x ∷ l) (map-append xs ys)

-- the event that closes the day at some time
abbrev close_at : ℕ → ℕ → Event
close_at time settle = record { time = time; act = Finish settle }

module _ (d : Day) (time settle : ℕ) where
  -- it cancels the buys, then the sells, each side best first
  pub close_cancels : cancels_told (act d (close_at time settle)).reports ≡ map ends_today (d.buys ++ d.sells)
  unfolding act finished
  close_cancels =
      let bs : List Report = cancel_reports DayEnd time d.buys in
      let ss : List Report = cancel_reports DayEnd time d.sells in
      let end : List Report = close_report d.session time settle ∷ [] in
      let none : cancels_told end ≡ [] = unfold cancels_told in refl in
      let sold : cancels_told (ss ++ end) ≡ map ends_today d.sells =
      told-append ss end ∙ (λ i. each_told time d.sells i ++ none i) ∙ append-nil (map ends_today d.sells) in
      told-append bs (ss ++ end)
      ∙ (λ i. each_told time d.buys i ++ sold i)
      ∙ sym (map-append d.buys d.sells)

  -- the last report tells the close price and the next base, from the trades of the day, the previous close and today's settlement
  pub close_last : (rs : List Report) × ((act d (close_at time settle)).reports
      ≡ rs ++ (report_at time (Close (closing_of d.session.settings.tick d.session.settings.close d.session.tape settle)) ∷ []))
  unfolding act finished
  close_last = (
    cancel_reports DayEnd time d.buys ++ cancel_reports DayEnd time d.sells,
    sym (append_assoc (cancel_reports DayEnd time d.buys) (cancel_reports DayEnd time d.sells) _),
  )

-- A closed session keeps all but its time, the closed mark and the live counts. A cooling-off stays as it is, whether it runs or has run
-- out, and so do the percent and the reference.
pub record Closed (d : Day) (time : ℕ) (d' : Day) : Type 0 where
  pub orders : (d'.buys ≡ []) × (d'.sells ≡ [])
  pub live : (d'.session.live.buys ≡ 0) × (d'.session.live.sells ≡ 0)
  pub time_is : d'.session.clock.time ≡ time
  pub closed : d'.session.clock.closed ≡ true
  pub settings : d'.session.settings ≡ d.session.settings
  pub widened : d'.session.clock.widened ≡ d.session.clock.widened
  pub cooling : d'.session.clock.cooling ≡ d.session.clock.cooling
  pub reckoning : d'.session.reckoning ≡ d.session.reckoning
  pub underlying : d'.session.clock.under ≡ d.session.clock.under
  pub given : d'.session.live.given ≡ d.session.live.given
  pub tape : d'.session.tape ≡ d.session.tape

pub close_keeps : (d : Day) (time settle : ℕ) → Closed d time (act d (close_at time settle)).day
unfolding act finished
close_keeps d time settle =
    record {
      orders = (refl, refl);
      live = (refl, refl);
      time_is = refl;
      closed = refl;
      settings = refl;
      widened = refl;
      cooling = refl;
      reckoning = refl;
      underlying = refl;
      given = refl;
      tape = refl;
    }
