-- "Order: slab (when the percent changed), ref (only if the value changed over the event), accept, trades, then convert or cancel"; at the
-- close the cancels, then the closing prices. The reports of each event stand in this order, on any day.
use Prim.Native.Nat.{ℕ, ◌+◌, ◌≤◌}
use native.Mathlib.Omega.{arith}
use mathlib.Core.Path.{◌≡◌, refl}
use mathlib.Core.Bool.{Bool, true, false}
use mathlib.Core.List.{List, [], ◌∷◌, ◌++◌, append_assoc, append-nil}
use Rattle.terms.specs.declared.Act.{Act}
use Rattle.terms.specs.declared.Entry.{Entry}
use Rattle.terms.specs.declared.Event.{Event}
use Rattle.terms.specs.declared.Order.{Order}
use Rattle.terms.specs.declared.Report.{Report}
use Rattle.terms.specs.declared.Said.{Said}
use Rattle.terms.specs.declared.Said.TheVariants.{Accept, Trade, Convert, Cancel, Slab, Ref, Close}
use Rattle.terms.specs.declared.Why.TheVariants.{DayEnd}
use Rattle.book_law.specs.Matching.{Swept, trade_reports, fate_reports}
use Rattle.state_law.specs.declared.Session.{Session}
use Rattle.state_law.specs.Clock.{clock_step}
use Rattle.state_law.specs.Day.{Day, own, across}
use Rattle.acts_law.specs.Acts.{Acted, only, slab_moved, slab_report, ref_moved, ref_report, clock_reports, sweep_in, fate_in, entered, dropped, cancel_reports, close_report, finished, stepped, timed, does, act}
use Rattle.acts_law.proofs.Does.{ends, does_by, begun_by}
use Rattle.acts_law.proofs.Pieces.{EachTold, trades_each, fate_each, cancels_each}

-- the place of a report in that order
abbrev pub rank : Said → ℕ
rank (Slab band) = 1
rank (Ref price) = 2
rank (Accept number) = 3
rank (Trade deal) = 4
rank (Convert order) = 5
rank (Cancel ended) = 5
rank (Close closing) = 6

-- no report has a lower rank than the one before it, and the first has at least the rank `least`
unfoldable pub InOrder : ℕ → List Report → Type 0
InOrder least [] = Unit {0}
InOrder least (r ∷ rs) = (least ≤ rank r.said) × InOrder (rank r.said) rs

-- ---- reports of one rank, and others behind them

order_from : (least k : ℕ) (rs : List Report) → least ≤ k → InOrder k rs → InOrder least rs
unfolding InOrder
order_from least k [] h o = tt
order_from least k (r ∷ rs) h o = (omega (arith, o.0), o.1)

abbrev Ranked : ℕ → List Report → Type 0
Ranked k rs = EachTold (λ r. rank r.said ≡ k) rs

ranked_then : (least k : ℕ) (xs ys : List Report) → least ≤ k → Ranked k xs → InOrder k ys → InOrder least (xs ++ ys)
unfolding InOrder EachTold
ranked_then least k [] ys h e o = order_from least k ys h o
ranked_then least k (x ∷ xs) ys h e o = (omega (arith, e.0), rw e.0 (ranked_then k k xs ys (omega arith) e.1 o))

ranked_last : (least k : ℕ) (xs : List Report) → least ≤ k → Ranked k xs → InOrder least xs
unfolding InOrder
ranked_last least k xs h e = rw append-nil at (ranked_then least k xs [] h e tt)

ranked_only : (k : ℕ) (b : Bool) (r : Report) → rank r.said ≡ k → Ranked k (only b r)
unfolding EachTold
ranked_only k true r e = (e, tt)
ranked_only k false r e = tt

-- ---- an act

entered-order : (s : Session) (n : Entry) (mine : List Order) (w : Swept) → InOrder 3 (entered s n mine w).reports
unfolding InOrder entered
entered-order s n mine w =
    let number : ℕ = s.live.given + 1 in
    let ts : List Report = trade_reports s.clock.time n.side number w.fills in
    let fs : List Report = fate_reports s.clock.time number w.left (fate_in s n w) in (
      omega arith,
      ranked_then 3 4 ts fs (omega arith) (trades_each _ s.clock.time n.side number w.fills (λ deal. refl))
          (ranked_last 4 5 fs (omega arith) (fate_each _ s.clock.time number w.left (fate_in s n w) (λ o. refl) (λ e. refl))),
    )

ends-order : (d : Day) (settle : ℕ) → InOrder 3 (ends d settle).reports
unfolding InOrder finished
ends-order d settle =
    let t : ℕ = d.session.clock.time in
    let bs : List Report = cancel_reports DayEnd t d.buys in
    let ss : List Report = cancel_reports DayEnd t d.sells in
    let end : List Report = close_report d.session t settle ∷ [] in
    ranked_then 3 5 bs (ss ++ end) (omega arith) (cancels_each _ DayEnd t d.buys (λ e. refl))
    (ranked_then 5 5 ss end (omega arith) (cancels_each _ DayEnd t d.sells (λ e. refl)) (omega arith, tt))

does-order : (d : Day) (a : Act) → InOrder 3 (does d a).reports
unfolding InOrder dropped
does-order d a =
    does_by (λ (x : Acted). InOrder 3 x.reports) d a
    (λ n e. entered-order d.session n (own n.side d) (sweep_in d.session n (across n.side d)))
    (λ number e. (omega arith, tt))
    (λ s q. tt)
    (λ settle e. ends-order d settle)

-- THE REPORTS OF AN EVENT STAND IN ORDER
pub act-order : (d : Day) (e : Event) → InOrder 1 (act d e).reports
unfolding clock_reports
act-order d e =
    let s : Session = d.session in
    let s' : Session = clock_step s e.time in
    let slab : List Report = only (slab_moved s s') (slab_report s') in
    let ref : List Report = only (ref_moved s s') (ref_report s') in
    begun_by (λ (x : Acted). InOrder 1 x.reports) d e
    (λ h. order_from 1 3 (does (timed d e.time).day e.act).reports (omega arith) (does-order (timed d e.time).day e.act))
    (λ h. let rest : List Report = (does (stepped d e.time).day e.act).reports in
    rw (append_assoc slab ref rest)
    (ranked_then 1 1 slab (ref ++ rest) (omega arith) (ranked_only 1 (slab_moved s s') (slab_report s') refl)
    (ranked_then 1 2 ref rest (omega arith) (ranked_only 2 (ref_moved s s') (ref_report s') refl)
    (order_from 2 3 rest (omega arith) (does-order (stepped d e.time).day e.act)))))
