-- An event on a sound day has no more reports than the room can hold: a slab, a ref, an acceptance, a trade with each order across, and
-- one for the remainder; or, at the close, a cancel for each order and the closing prices.
use Prim.Native.Nat.{ℕ, ◌+◌, ◌≤◌}
use native.Mathlib.Omega.{arith}
use mathlib.Core.Path.{◌≡◌, refl}
use mathlib.Core.Bool.{Bool, true, false}
use mathlib.Core.List.{List, [], ◌∷◌, ◌++◌}
use lib.ListN.{length, length-append}
use Rattle.terms.specs.declared.Order.{Order}
use Rattle.terms.specs.declared.Entry.{Entry}
use Rattle.terms.specs.declared.Event.{Event}
use Rattle.terms.specs.declared.Act.{Act}
use Rattle.terms.specs.declared.Side.{Side}
use Rattle.terms.specs.declared.Side.TheVariants.{Buy, Sell}
use Rattle.terms.specs.declared.Report.{Report}
use Rattle.terms.specs.declared.Why.{Why}
use Rattle.terms.specs.declared.Why.TheVariants.{DayEnd}
use Rattle.tables.specs.Lengths.{reports_most}
use Rattle.book_law.specs.Matching.{Swept, trade_reports, fate_reports}
use Rattle.book_law.proofs.Conserve.{sweep_fewer}
use Rattle.book_law.proofs.Remainder.{length-trades, fate_placed}
use Rattle.book_sound_law.specs.Sound.{BookFits}
use Rattle.book_sound_law.proofs.Facts.{book-fits}
use Rattle.state_law.specs.declared.Session.{Session}
use Rattle.state_law.specs.Now.{band_now}
use Rattle.state_law.specs.Clock.{clock_step}
use Rattle.state_law.specs.Day.{Day, own, across, day_by}
use Rattle.soundness_law.specs.Sound.{sound}
use Rattle.soundness_law.proofs.Days.{sound-day}
use Rattle.acts_law.specs.Acts.{Acted, only, slab_moved, slab_report, ref_moved, ref_report, clock_reports, sweep_in, fate_in, entered, dropped, cancel_reports, close_report, finished, timed, does, act}
use Rattle.acts_law.proofs.Does.{ends, does_by, begun_by}

pub only-few : (b : Bool) (r : Report) → length (only b r) ≤ 1
only-few true r = omega arith
only-few false r = omega arith

pub clock_few : (s s' : Session) → length (clock_reports s s') ≤ 2
unfolding clock_reports
clock_few s s' =
    let slab : List Report = only (slab_moved s s') (slab_report s') in
    let ref : List Report = only (ref_moved s s') (ref_report s') in
    omega (arith, length-append slab ref, only-few (slab_moved s s') (slab_report s'), only-few (ref_moved s s') (ref_report s'))

pub swept_few : (s : Session) (n : Entry) (theirs : List Order) → length (sweep_in s n theirs).fills ≤ length theirs
unfolding sweep_in
swept_few s n theirs = (sweep_fewer _ 0 n.lots theirs).fills

fate_few : (s : Session) (n : Entry) (w : Swept) (number : ℕ) → length (fate_reports s.clock.time number w.left (fate_in s n w)) ≤ 1
unfolding fate_in
fate_few s n w number = (fate_placed n.side number s.clock.time [] n.life n.kind _ _ w).one

entered-few : (s : Session) (n : Entry) (mine theirs : List Order) → length (entered s n mine (sweep_in s n theirs)).reports ≤ 2 + length theirs
unfolding entered
entered-few s n mine theirs =
    let w : Swept = sweep_in s n theirs in
    let number : ℕ = s.live.given + 1 in
    omega (
      arith,
      length-append (trade_reports s.clock.time n.side number w.fills) (fate_reports s.clock.time number w.left (fate_in s n w)),
      length-trades s.clock.time n.side number w.fills,
      swept_few s n theirs,
      fate_few s n w number,
    )

cancels_few : (why : Why) (t : ℕ) (os : List Order) → length (cancel_reports why t os) ≡ length os
unfolding cancel_reports
cancels_few why t [] = refl
cancels_few why t (o ∷ os) = omega (arith, cancels_few why t os)

ends-few : (d : Day) (settle : ℕ) → length (ends d settle).reports ≡ length d.buys + length d.sells + 1
unfolding finished
ends-few d settle =
    let t : ℕ = d.session.clock.time in
    let bs : List Report = cancel_reports DayEnd t d.buys in
    let ss : List Report = cancel_reports DayEnd t d.sells in
    let end : List Report = close_report d.session t settle ∷ [] in
    omega (arith, length-append bs (ss ++ end), length-append ss end, cancels_few DayEnd t d.buys, cancels_few DayEnd t d.sells)

-- the orders across are no more than those of the two sides
across-few : (side : Side) (d : Day) → length (across side d) ≤ length d.buys + length d.sells
across-few Buy d = omega arith
across-few Sell d = omega arith

does-few : (d : Day) (a : Act) → length (does d a).reports ≤ 2 + (length d.buys + length d.sells)
unfolding dropped
does-few d a =
    does_by (λ (x : Acted). length x.reports ≤ 2 + (length d.buys + length d.sells)) d a
    (λ n e. omega (arith, entered-few d.session n (own n.side d) (across n.side d), across-few n.side d))
    (λ number e. omega arith)
    (λ s q. omega arith)
    (λ settle e. omega (arith, ends-few d settle))

-- an event on any day has at most four reports more than there are orders
pub act_each : (d : Day) (e : Event) → length (act d e).reports ≤ 4 + (length d.buys + length d.sells)
act_each d e =
    let s : Session = d.session in
    let s' : Session = clock_step s e.time in
    begun_by (λ (x : Acted). length x.reports ≤ 4 + (length d.buys + length d.sells)) d e
    (λ h. omega (arith, does-few (timed d e.time).day e.act))
    (λ h. omega (arith, length-append (clock_reports s s') (does (day_by s' d) e.act).reports, clock_few s s', does-few (day_by s' d) e.act))

-- THE REPORTS FIT THE ROOM
pub act-few : (d : Day) (e : Event) → sound d ≡ true → length (act d e).reports ≤ reports_most
act-few d e h =
    let s : Session = d.session in
    let f : BookFits s.live.given s.settings.tick (band_now s) d.buys d.sells =
    book-fits s.live.given s.settings.tick (band_now s) d.buys d.sells (sound-day d h).book in
    omega (arith, act_each d e, f.few_buys, f.few_sells)
