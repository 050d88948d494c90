-- Every number in a report of an accepted event can be written: times, order numbers, lots, prices, the ends of a band, a reference,
-- closing prices. Each is within a bound that the refusals or a sound session give.
use Prim.Native.Nat.{ℕ, ◌+◌, ◌≤◌}
use native.Mathlib.Omega.{arith}
use mathlib.Core.Path.{◌≡◌, ap}
use mathlib.Core.Bool.{Bool, true, false}
use mathlib.Core.List.{List, [], ◌∷◌, ◌++◌}
use lib.Dec.{eqb}
use lib.ListN.{length}
use Rattle.terms.specs.declared.Band.{Band}
use Rattle.terms.specs.declared.Order.{Order}
use Rattle.terms.specs.declared.Entry.{Entry}
use Rattle.terms.specs.declared.Event.{Event}
use Rattle.terms.specs.declared.Act.{Act}
use Rattle.terms.specs.declared.Kind.{Kind}
use Rattle.terms.specs.declared.Kind.TheVariants.{Limit, Market}
use Rattle.terms.specs.declared.Life.{Life}
use Rattle.terms.specs.declared.Life.TheVariants.{AllDay, Ioc}
use Rattle.terms.specs.declared.Side.{Side}
use Rattle.terms.specs.declared.Side.TheVariants.{Buy, Sell}
use Rattle.terms.specs.declared.Report.{Report}
use Rattle.terms.specs.declared.Said.{Said}
use Rattle.terms.specs.declared.Said.TheVariants.{Accept, Trade, Convert, Cancel, Slab, Ref, Close}
use Rattle.terms.specs.declared.Why.{Why}
use Rattle.terms.specs.declared.Why.TheVariants.{Asked, Immediate, OutOfRange, OutsideBand, DayEnd}
use Rattle.terms.specs.Sizes.{lots_most, price_most, time_most, numbers_most, written_most}
use Rattle.terms.specs.Reports.{kind_of, why_of}
use Rattle.tables.specs.Records.{fields_of, record_of}
use Rattle.terms.proofs.Logic.{by, between_facts}
use Rattle.terms.proofs.Valid.{valid_facts}
use Rattle.terms.specs.Numbers.{Writable}
use Rattle.rules_law.specs.Slabs.{in_band}
use Rattle.rules_law.proofs.Bands.{low_small, high_small}
use Rattle.book_law.specs.Priority.{left_of}
use Rattle.book_law.specs.declared.Fate.{Fate}
use Rattle.book_law.specs.Matching.{Swept, report_at, deal_of, trade_reports, own_last_or, fate_of_left, fate_of, fate_reports}
use Rattle.book_law.specs.Over.{Each}
use Rattle.book_law.proofs.Over.{each_map}
use Rattle.book_law.proofs.Conserve.{Conserved, sweep_conserves}
use Rattle.book_sound_law.specs.Sound.{OrderFits, BookFits}
use Rattle.book_sound_law.proofs.Facts.{book-fits, each_fits}
use Rattle.state_law.specs.declared.Session.{Session}
use Rattle.state_law.specs.Now.{band_now}
use Rattle.state_law.specs.Day.{Day, own, across}
use Rattle.soundness_law.specs.Sound.{sound}
use Rattle.soundness_law.proofs.Parts.{Parts}
use Rattle.soundness_law.proofs.Days.{BookOf, sound-day, now_priced}
use Rattle.soundness_law.proofs.Closes.{close_small, base_small}
use Rattle.terms.specs.Carried.{carries}
use Rattle.refusal_law.proofs.Accepted.{Accepted, time_right, price-right, number-right}
use Rattle.acts_law.specs.Acts.{Acted, only, slab_moved, slab_report, ref_moved, ref_report, clock_reports, sweep_in, fate_in, entered, ended, dropped, side_of, withdrawn, silent, cancel_reports, close_report, finished, and_then, stepped, timed, act}
use Rattle.acts_law.specs.Small.{SmallReport, SmallReports}
use Rattle.acts_law.proofs.Does.{sets_alike, enters, ends, event_by}
use Rattle.acts_law.proofs.Stays.{Ready, fills_fit, Let, begins_ready, lets}

-- ---- one report

kind-small : (x : Said) → kind_of x ≤ written_most
kind-small (Accept number) = omega arith
kind-small (Trade deal) = omega arith
kind-small (Convert order) = omega arith
kind-small (Cancel ended) = omega arith
kind-small (Slab band) = omega arith
kind-small (Ref price) = omega arith
kind-small (Close closing) = omega arith

why_small : (w : Why) → why_of w ≤ written_most
why_small Asked = omega arith
why_small Immediate = omega arith
why_small OutOfRange = omega arith
why_small OutsideBand = omega arith
why_small DayEnd = omega arith

-- a record with four small fields can be written
four : (a b c d : ℕ) → a ≤ written_most → b ≤ written_most → c ≤ written_most → d ≤ written_most → Writable (a ∷ b ∷ c ∷ d ∷ [])
four a b c d h k l m = (h, (k, (l, (m, tt))))

said-small : (t : ℕ) (x : Said) → t ≤ time_most → Writable (fields_of x) → SmallReport (report_at t x)
unfolding record_of
said-small t x h k = (kind-small x, (omega arith, k))

accept_small : (t number : ℕ) → t ≤ time_most → number ≤ numbers_most → SmallReport (report_at t (Accept number))
accept_small t number h n = said-small t (Accept number) h (four number 0 0 0 (omega arith) (omega arith) (omega arith) (omega arith))

cancel-small : (t number lots : ℕ) (why : Why) → t ≤ time_most → number ≤ numbers_most → lots ≤ lots_most → SmallReport (ended t number lots why)
cancel-small t number lots why h n l =
    said-small t (Cancel (record { number = number; lots = lots; why = why })) h
    (four number lots (why_of why) 0 (omega arith) (omega arith) (why_small why) (omega arith))

-- ---- lists of reports

pub append-small : (rs rs' : List Report) → SmallReports rs → SmallReports rs' → SmallReports (rs ++ rs')
unfolding SmallReports
append-small [] rs' h k = k
append-small (r ∷ rs) rs' h k = (h.0, append-small rs rs' h.1 k)

one_small : (r : Report) → SmallReport r → SmallReports (r ∷ [])
unfolding SmallReports
one_small r h = (h, tt)

only-small : (b : Bool) (r : Report) → SmallReport r → SmallReports (only b r)
unfolding SmallReports
only-small true r h = (h, tt)
only-small false r h = tt

-- ---- the clock steps

slab_small : (s : Session) → Parts s → SmallReport (slab_report s)
slab_small s p =
    let f = now_priced s (valid_facts s.settings p.valid) in
    said-small s.clock.time (Slab (band_now s)) p.timed.most
    (four (band_now s).low (band_now s).high 0 0 (omega (arith, low_small f)) (omega (arith, high_small f)) (omega arith) (omega arith))

ref_small : (s : Session) → Parts s → SmallReport (ref_report s)
ref_small s p =
    said-small s.clock.time (Ref s.reckoning.reference) p.timed.most
    (four s.reckoning.reference 0 0 0 (omega (arith, p.numbered.reference_small)) (omega arith) (omega arith) (omega arith))

clock_small : (s s' : Session) → Parts s' → SmallReports (clock_reports s s')
unfolding clock_reports
clock_small s s' p =
    append-small (only (slab_moved s s') (slab_report s')) (only (ref_moved s s') (ref_report s'))
    (only-small (slab_moved s s') (slab_report s') (slab_small s' p))
    (only-small (ref_moved s s') (ref_report s') (ref_small s' p))

-- ---- an order

-- the number, the price and the lots of an order that rests or trades can be written
record Small (o : Order) : Type 0 where
  number : o.number ≤ numbers_most
  price : o.price ≤ price_most
  lots : o.lots ≤ lots_most

each_small : (s : Session) (os : List Order) → Parts s → Each (OrderFits s.live.given s.settings.tick (band_now s)) os → Each Small os
each_small s os p e =
    let f = now_priced s (valid_facts s.settings p.valid) in
    each_map (OrderFits s.live.given s.settings.tick (band_now s)) Small
    (λ o k. record {
      number = omega (arith, k.number_given, p.numbered.given_small);
      price = omega (arith, (between_facts (band_now s).low o.price (band_now s).high k.banded).1, high_small f);
      lots = k.lots_small;
    })
    os e

trades_small : (t : ℕ) (side : Side) (number : ℕ) (fs : List Order) → t ≤ time_most → number ≤ numbers_most → Each Small fs →
    SmallReports (trade_reports t side number fs)
unfolding trade_reports SmallReports
trades_small t side number [] h n e = tt
trades_small t Buy number (f ∷ fs) h n e =
    let k = e.0 in (
      said-small t (Trade (deal_of Buy number f)) h
          (four number f.number f.lots f.price (omega arith) (omega (arith, k.number)) (omega (arith, k.lots)) (omega (arith, k.price))),
      trades_small t Buy number fs h n e.1,
    )
trades_small t Sell number (f ∷ fs) h n e =
    let k = e.0 in (
      said-small t (Trade (deal_of Sell number f)) h
          (four f.number number f.lots f.price (omega (arith, k.number)) (omega arith) (omega (arith, k.lots)) (omega (arith, k.price))),
      trades_small t Sell number fs h n e.1,
    )

module _ (t number left : ℕ) (h : t ≤ time_most) (n : number ≤ numbers_most) (l : left ≤ lots_most) (band : Band) (b : band.high ≤ price_most) where
  abbrev Told : Fate → Type 0
  Told fate = SmallReports (fate_reports t number left fate)

  ends-small : (why : Why) → SmallReports (ended t number left why ∷ [])
  ends-small why = one_small (ended t number left why) (cancel-small t number left why h n l)

  -- the price at which a remainder becomes a limit is in the band, so it can be written
  turns_small : (price : ℕ) → in_band band price ≡ true →
      SmallReports (report_at t (Convert (record { number = number; price = price; lots = left })) ∷ [])
  turns_small price e =
      let o : Order = record { number = number; price = price; lots = left } in
      one_small (report_at t (Convert o)) (said-small t (Convert o) h
      (four number left price 0 (omega arith) (omega arith) (omega (arith, (between_facts band.low price band.high e).1)) (omega arith)))

  left-small : (life : Life) (kind : Kind) (price : ℕ) → Told (fate_of_left life kind band price)
  unfolding SmallReports
  left-small Ioc kind price = ends-small Immediate
  left-small AllDay (Limit limit) price = tt
  left-small AllDay Market price = by Told (in_band band price) _ _ (λ e. turns_small price e) (λ e. ends-small OutsideBand)

  fate_small : (life : Life) (kind : Kind) (last : ℕ) (w : Swept) → Told (fate_of life kind band last w)
  unfolding fate_of SmallReports
  fate_small life kind last w =
      by Told (eqb w.left 0) _ _ (λ e. tt)
      (λ e. by Told w.out _ _ (λ o. ends-small OutOfRange) (λ o. left-small life kind (own_last_or last w.fills)))

-- no more is left of an order than it asked for
swept_left : (s : Session) (n : Entry) (theirs : List Order) → (sweep_in s n theirs).left ≤ n.lots
unfolding sweep_in
swept_left s n theirs =
    let c : Conserved n.lots theirs (sweep_in s n theirs) = sweep_conserves _ 0 n.lots theirs in
    omega (arith, c.incoming)

entered-small : (d : Day) (n : Entry) → Let d n → SmallReports (enters d n).reports
unfolding entered fate_in sweep_in SmallReports
entered-small d n r =
    let s : Session = d.session in
    let side : Side = n.side in
    let w : Swept = sweep_in s n (across side d) in
    let number : ℕ = s.live.given + 1 in
    let p : Parts s = r.day.parts in
    let f = now_priced s (valid_facts s.settings p.valid) in
    let given : number ≤ numbers_most = omega (arith, r.given_few) in
    let left : w.left ≤ lots_most = omega (arith, swept_left s n (across side d), r.admitted.few) in (
      accept_small s.clock.time number p.timed.most given,
      append-small (trade_reports s.clock.time side number w.fills) (fate_reports s.clock.time number w.left (fate_in s n w))
          (trades_small s.clock.time side number w.fills p.timed.most given
          (each_small s w.fills p (fills_fit s d r.day.book n.life n.kind _ n.lots side)))
          (fate_small s.clock.time number w.left p.timed.most given left (band_now s) (omega (arith, high_small f)) n.life n.kind _ w),
    )

-- ---- the other acts

left_of_small : (number : ℕ) (os : List Order) → Each Small os → left_of number os ≤ lots_most
unfolding left_of
left_of_small number [] e = omega arith
left_of_small number (o ∷ os) e =
    by (λ (x : ℕ). x ≤ lots_most) (eqb o.number number) o.lots (left_of number os) (λ z. e.0.lots) (λ z. left_of_small number os e.1)

-- the orders of a sound book can be written
record Books (d : Day) : Type 0 where
  buys : Each Small d.buys
  sells : Each Small d.sells

books : (s : Session) (d : Day) → Parts s → BookOf s d.buys d.sells → Books d
books s d p b =
    let f : BookFits s.live.given s.settings.tick (band_now s) d.buys d.sells =
    book-fits s.live.given s.settings.tick (band_now s) d.buys d.sells b in
    record {
      buys = each_small s d.buys p (each_fits s.live.given s.settings.tick (band_now s) d.buys f.each_buy);
      sells = each_small s d.sells p (each_fits s.live.given s.settings.tick (band_now s) d.sells f.each_sell);
    }

own-small : (side : Side) (d : Day) → Books d → Each Small (own side d)
own-small Buy d k = k.buys
own-small Sell d k = k.sells

dropped-small : (d : Day) (number : ℕ) (why : Why) (side : Side) → Ready d → number ≤ numbers_most →
    SmallReports (dropped d.session number why side (own side d) (across side d)).reports
unfolding dropped
dropped-small d number why side r n =
    one_small _ (cancel-small d.session.clock.time number (left_of number (own side d)) why r.parts.timed.most n
    (left_of_small number (own side d) (own-small side d (books d.session d r.parts r.book))))

cancels_small : (why : Why) (t : ℕ) (os : List Order) → t ≤ time_most → Each Small os → SmallReports (cancel_reports why t os)
unfolding cancel_reports SmallReports
cancels_small why t [] h e = tt
cancels_small why t (o ∷ os) h e = (cancel-small t o.number o.lots why h e.0.number e.0.lots, cancels_small why t os h e.1)

finished-small : (d : Day) (t settle : ℕ) → sound d ≡ true → t ≤ time_most → settle ≤ price_most → length d.session.tape.prices ≡ 10 →
    SmallReports (ends (timed d t).day settle).reports
unfolding finished
finished-small d t settle h m u l =
    let s : Session = d.session in
    let w = sound-day d h in
    let k : Books d = books s d w.parts w.book in
    let end : SmallReport (close_report s t settle) =
    said-small t _ m (four _ _ 0 0 (omega (arith, close_small s w.parts l)) (omega (arith, base_small s w.parts l settle u)) (omega arith) (omega arith)) in
    append-small (cancel_reports DayEnd t d.buys) _ (cancels_small DayEnd t d.buys m k.buys)
    (append-small (cancel_reports DayEnd t d.sells) _ (cancels_small DayEnd t d.sells m k.sells) (one_small (close_report s t settle) end))

-- ---- an event

-- EVERY NUMBER IN A REPORT CAN BE WRITTEN, given that the session's array holds ten prices
pub act-small : (d : Day) (e : Event) → Accepted d e → length d.session.tape.prices ≡ 10 → SmallReports (act d e).reports
unfolding SmallReports
act-small d e k l =
    let d' : Day = (stepped d e.time).day in
    let clock : Ready d' → (a : Acted) → SmallReports a.reports → SmallReports (and_then (stepped d e.time) a).reports =
    λ r a h. append-small (clock_reports d.session d'.session) a.reports (clock_small d.session d'.session r.parts) h in
    event_by (λ (x : Acted). SmallReports x.reports) d e
    (λ n z. let r = lets d e k n z in clock r.day (enters d' n) (entered-small d' n r))
    (λ number z. let r = begins_ready d e k (ap (λ (a : Act). (carries a).closes) z) in
    clock r (withdrawn d' number) (dropped-small d' number Asked (side_of number d.buys) r (number-right d e k number (ap (λ (a : Act). (carries a).number) z)).1))
    (λ s q. clock (begins_ready d e k (sets_alike q).stays) (silent s d) tt)
    (λ settle z. finished-small d e.time settle k.whole (time_right d e k) (price-right d e k settle (ap (λ (a : Act). (carries a).price) z)).1 l)
