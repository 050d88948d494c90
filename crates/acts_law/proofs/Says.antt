-- The reports of each act are fine for a listener, who then knows the session that the act leaves.
use Prim.Native.Nat.{ℕ, ◌+◌, ◌≤◌}
use native.Mathlib.Omega.{arith}
use native.Mathlib.Nat.{le_refl}
use borrow.Author.Tests.{eqb-true, leb-true, not-true, not-false}
use mathlib.Core.Path.{◌≡◌, refl, sym, ap, ◌∙◌}
use mathlib.Core.Bool.{Bool, true, false, ◌||◌, not}
use mathlib.Core.List.{List, [], ◌∷◌, ◌++◌}
use lib.Dec.{eqb, leb}
use Rattle.terms.specs.declared.Settings.{Settings}
use Rattle.terms.specs.declared.Band.{Band}
use Rattle.terms.specs.declared.Closing.{Closing}
use Rattle.terms.specs.declared.Deal.{Deal}
use Rattle.terms.specs.declared.Ended.{Ended}
use Rattle.terms.specs.declared.Order.{Order}
use Rattle.terms.specs.declared.Entry.{Entry}
use Rattle.terms.specs.declared.Event.{Event}
use Rattle.terms.specs.declared.Act.{Act}
use Rattle.terms.specs.declared.Side.{Side}
use Rattle.terms.specs.declared.Side.TheVariants.{Buy, Sell}
use Rattle.terms.specs.declared.Report.{Report}
use Rattle.terms.specs.declared.Said.TheVariants.{Accept, Trade, Convert, Cancel, Slab, Ref, Close}
use Rattle.terms.specs.declared.Why.{Why}
use Rattle.terms.specs.declared.Why.TheVariants.{Asked}
use Rattle.terms.proofs.Logic.{by, split, cond_true}
use Rattle.rules_law.specs.Slabs.{slab_of, percent_of, band_at, in_band, over_by}
use Rattle.rules_law.specs.Reference.{in_range}
use Rattle.book_law.specs.Priority.{removed, left_of}
use Rattle.book_law.specs.Matching.{Taker, taker, Swept, sweep, report_at, deal_of, trade_reports, settled, fate_reports}
use Rattle.book_law.specs.Over.{Each, EachPrice}
use Rattle.book_law.proofs.Over.{each_map}
use Rattle.book_law.proofs.Fills.{Dealable, fills_dealable, each_swept}
use Rattle.book_sound_law.specs.Sound.{OrderFits, BookFits}
use Rattle.book_sound_law.proofs.Facts.{book-fits, each_fits}
use Rattle.state_law.specs.declared.Session.{Session}
use Rattle.state_law.specs.Set.{set_time, set_given}
use Rattle.state_law.specs.Now.{percent_now, band_now, range_now}
use Rattle.state_law.specs.Clock.{widened_by, cooling_by, clock_step}
use Rattle.state_law.specs.Trades.{with_trade, with_trades}
use Rattle.state_law.specs.Day.{Day, own, across, day_with}
use Rattle.state_law.proofs.Steps.{band_stays}
use Rattle.state_law.proofs.Leaves.{percent_changes, trades_leave}
use Rattle.soundness_law.specs.Sound.{sound}
use Rattle.soundness_law.proofs.Kept.{not_widened}
use Rattle.soundness_law.proofs.Days.{sound-day}
use Rattle.acts_law.specs.Acts.{Acted, only, slab_moved, ref_moved, clock_reports, sweep_in, fate_in, entered, ended, dropped, side_of, finished, stepped, timed, does, act}
use Rattle.acts_law.specs.Heard.{initial_band, enhanced_band, touched_by}
use Rattle.acts_law.proofs.Does.{Sets, sets_under, sets_none, sets_alike, ends, does_by, across_by, Chains, begun_by}
use Rattle.acts_law.proofs.Hears.{Listener, listen, FineSlab, Cooled, Known, known_of, Knows, KnowsOf, Tells, TellsOf, none-tells, next-tells, one_tells, append-tells, later_by_lem, cooled_more, cooled_trade, Plain, PlainAt, knows_more, plain-fine, plain-tells}
use Rattle.acts_law.proofs.Pieces.{each_one, fate_each, finished_each}

-- ---- the clock steps

slab_tells : (g : Settings) (l : Listener) (k k' : Known) (changed : Bool) → Knows g l k → k.time ≤ k'.time → k.reference ≡ k'.reference →
    (changed ≡ false → k.band ≡ k'.band) → (changed ≡ true → FineSlab g l k'.time k'.band) → Cooled g k'.cooling l.past →
    Tells g l (only changed (report_at k'.time (Slab k'.band))) k'
slab_tells g l k k' true h m p e f c =
    let r : Report = report_at k'.time (Slab k'.band) in
    one_tells g k' l r (omega (arith, h.time_past), (tt, f refl))
    (record {
      band-same = refl;
      reference-same = h.reference-same ∙ p;
      time_past = le_refl k'.time;
      cooled = cooled_more g k'.cooling r l.past c;
    })
slab_tells g l k k' false h m p e f c =
    none-tells g k' l
    (record { band-same = h.band-same ∙ e refl; reference-same = h.reference-same ∙ p; time_past = omega (arith, h.time_past); cooled = c })

-- what is known, but with another reference
abbrev with_reference : ℕ → Known → Known
with_reference p k = record { band = k.band; reference = p; time = k.time; cooling = k.cooling }

ref_tells : (g : Settings) (l : Listener) (k : Known) (p : ℕ) (changed : Bool) → Knows g l k → (changed ≡ false → k.reference ≡ p) →
    Tells g l (only changed (report_at k.time (Ref p))) (with_reference p k)
ref_tells g l k p true h e =
    let r : Report = report_at k.time (Ref p) in
    one_tells g (with_reference p k) l r (h.time_past, (tt, tt))
    (record {
      band-same = h.band-same;
      reference-same = refl;
      time_past = le_refl k.time;
      cooled = cooled_more g k.cooling r l.past h.cooled;
    })
ref_tells g l k p false h e =
    none-tells g (with_reference p k) l
    (record { band-same = h.band-same; reference-same = h.reference-same ∙ e refl; time_past = h.time_past; cooled = h.cooled })

unchanged : (a b : ℕ) → not (eqb a b) ≡ false → a ≡ b
unchanged a b e = eqb-true a b (not-false (eqb a b) e)

-- a cooling-off that is over was begun by a touch that lies its full length back
over_touched : (g : Settings) (c t : ℕ) (past : List Report) → Cooled g c past → over_by c t ≡ true → touched_by (initial_band g) t past ≡ true
over_touched g c t past h e =
    let p = split (not (eqb c 0)) (leb c t) e in
    later_by_lem (initial_band g) c t past (leb-true c t p.1) (rw (not-true (eqb c 0) p.0) at h)

cooled_clock : (g : Settings) (c t : ℕ) (past : List Report) → Cooled g c past → Cooled g (cooling_by c t) past
unfolding cooling_by
cooled_clock g c t past h = by (λ (x : ℕ). Cooled g x past) (over_by c t) 0 c (λ e. refl) (λ e. h)

-- where a cooling-off is over, the band was the initial one and becomes the enhanced one
over_widens : (s : Session) (t : ℕ) → (eqb s.clock.widened 0 || eqb s.clock.cooling 0) ≡ true → over_by s.clock.cooling t ≡ true →
    (band_now s ≡ initial_band s.settings) × (band_now (clock_step s t) ≡ enhanced_band s.settings)
unfolding clock_step widened_by percent_of
over_widens s t h e =
    let g : Settings = s.settings in
    let z : s.clock.widened ≡ 0 = not_widened s.clock.widened s.clock.cooling h (not-true _ (split (not (eqb s.clock.cooling 0)) (leb s.clock.cooling t) e).0) in
    let band : ℕ → Band = λ w. band_at g.base g.tick (percent_of (slab_of g.category) w) in
    (ap band z, ap band (cond_true (over_by s.clock.cooling t) (s.clock.widened + 1) s.clock.widened e ∙ ap (λ (w : ℕ). w + 1) z))

clock_tells : (s : Session) (t : ℕ) (l : Listener) → s.clock.time ≤ t → (eqb s.clock.widened 0 || eqb s.clock.cooling 0) ≡ true → KnowsOf s.settings l s →
    TellsOf s.settings l (clock_reports s (clock_step s t)) (clock_step s t)
unfolding clock_reports clock_step
clock_tells s t l h i k =
    let g : Settings = s.settings in
    let s' : Session = clock_step s t in
    let slab : Known = with_reference s.reckoning.reference (known_of s') in
    append-tells g slab (known_of s') l _ _
    (slab_tells g l (known_of s) slab (slab_moved s s') k h refl
    (λ e. ap (band_at g.base g.tick) (unchanged (percent_now s) (percent_now s') e))
    (λ e. let over : over_by s.clock.cooling t ≡ true = percent_changes s t e in let bands = over_widens s t i over in record {
      touched = over_touched g s.clock.cooling t l.past k.cooled over;
      before = k.band-same ∙ bands.0;
      told = bands.1;
      wider = λ x z. band_stays s t x (rw k.band-same at z);
    })
    (cooled_clock g s.clock.cooling t l.past k.cooled))
    (λ m. ref_tells g _ slab s'.reckoning.reference (ref_moved s s') m
    (λ e. unchanged s.reckoning.reference s'.reckoning.reference e))

-- ---- trades

-- a trade at this price is fine: it is in the band and in the range
abbrev Good : Session → ℕ → Type 0
Good s p = (in_band (band_now s) p ≡ true) × (in_range (range_now s) p ≡ true)

trade_next : (s s' : Session) (l : Listener) (deal : Deal) (lots : ℕ) (rs : List Report) → KnowsOf s.settings l s → Good s deal.price →
    (KnowsOf s.settings (listen l (report_at s.clock.time (Trade deal))) (with_trade s deal.price lots) →
    TellsOf s.settings (listen l (report_at s.clock.time (Trade deal))) rs s') →
    TellsOf s.settings l (report_at s.clock.time (Trade deal) ∷ rs) s'
unfolding with_trade
trade_next s s' l deal lots rs k p f =
    let r : Report = report_at s.clock.time (Trade deal) in
    next-tells s.settings (known_of s') l r rs
    (k.time_past, ((rw k.band-same p.0, rw k.reference-same p.1), tt))
    (f (record {
      band-same = k.band-same;
      reference-same = k.reference-same;
      time_past = le_refl s.clock.time;
      cooled = cooled_trade s.settings s.clock.widened s.clock.cooling s.clock.time deal l.past k.cooled;
    }))

trades_tell : (s : Session) (l : Listener) (side : Side) (number : ℕ) (fs : List Order) → KnowsOf s.settings l s → EachPrice (Good s) fs →
    TellsOf s.settings l (trade_reports s.clock.time side number fs) (with_trades s fs)
unfolding trade_reports with_trades with_trade
trades_tell s l side number [] k p = none-tells s.settings (known_of s) l k
trades_tell s l Buy number (f ∷ fs) k p =
    trade_next s (with_trades (with_trade s f.price f.lots) fs) l (deal_of Buy number f) f.lots (trade_reports s.clock.time Buy number fs) k p.0
    (λ m. trades_tell (with_trade s f.price f.lots) (listen l (report_at s.clock.time (Trade (deal_of Buy number f)))) Buy number fs m p.1)
trades_tell s l Sell number (f ∷ fs) k p =
    trade_next s (with_trades (with_trade s f.price f.lots) fs) l (deal_of Sell number f) f.lots (trade_reports s.clock.time Sell number fs) k p.0
    (λ m. trades_tell (with_trade s f.price f.lots) (listen l (report_at s.clock.time (Trade (deal_of Sell number f)))) Sell number fs m p.1)

-- ---- an order

-- reports that say nothing of band and reference
plain_accept : (g : Settings) (number : ℕ) → Plain g (Accept number)
plain_accept g number = record { band = λ b. refl; reference = λ p. refl; fine = λ l t. (tt, tt) }

plain_convert : (g : Settings) (o : Order) → Plain g (Convert o)
plain_convert g o = record { band = λ b. refl; reference = λ p. refl; fine = λ l t. (tt, tt) }

plain-cancel : (g : Settings) (e : Ended) → Plain g (Cancel e)
plain-cancel g e = record { band = λ b. refl; reference = λ p. refl; fine = λ l t. (tt, tt) }

plain_close : (g : Settings) (c : Closing) → Plain g (Close c)
plain_close g c = record { band = λ b. refl; reference = λ p. refl; fine = λ l t. (tt, tt) }

-- what a listener knows of a session he knows of the day that it makes with a side's own orders and those across
tells_with : (g : Settings) (l : Listener) (rs : List Report) (side : Side) (s : Session) (mine theirs : List Order) → TellsOf g l rs s →
    TellsOf g l rs (day_with side s mine theirs).session
tells_with g l rs Buy s mine theirs k = k
tells_with g l rs Sell s mine theirs k = k

each_both : (P Q : ℕ → Type 0) (os : List Order) → EachPrice P os → EachPrice Q os → EachPrice (λ p. P p × Q p) os
each_both P Q [] h k = tt
each_both P Q (o ∷ os) h k = ((h.0, k.0), each_both P Q os h.1 k.1)

-- an order that meets orders in the band trades in the band and in the range
fills_good : (s : Session) (n : Entry) (theirs : List Order) → EachPrice (λ p. in_band (band_now s) p ≡ true) theirs →
    EachPrice (Good s) (sweep_in s n theirs).fills
unfolding sweep_in
fills_good s n theirs h =
    let q : Taker = taker n.side n.kind (range_now s) in
    let fs : List Order = (sweep q 0 n.lots theirs).fills in
    each_both (λ p. in_band (band_now s) p ≡ true) (λ p. in_range (range_now s) p ≡ true) fs
    (each_swept (λ o. in_band (band_now s) o.price ≡ true) (λ o k i j e. e) q 0 n.lots theirs h).fills
    (each_map (λ o. Dealable q o.price) (λ o. in_range (range_now s) o.price ≡ true) (λ o e. e.1) fs (fills_dealable q 0 n.lots theirs))

entered-tells : (s : Session) (n : Entry) (mine : List Order) (w : Swept) (l : Listener) → KnowsOf s.settings l s → EachPrice (Good s) w.fills →
    TellsOf s.settings l (entered s n mine w).reports (entered s n mine w).day.session
unfolding entered
entered-tells s n mine w l k p =
    let g : Settings = s.settings in
    let number : ℕ = s.live.given + 1 in
    let s' : Session = with_trades (set_given s number) w.fills in
    let r : Report = report_at s.clock.time (Accept number) in
    let ts : List Report = trade_reports s.clock.time n.side number w.fills in
    let fs : List Report = fate_reports s.clock.time number w.left (fate_in s n w) in
    let plainly : PlainAt g s.clock.time r = (plain_accept g number, refl) in
    tells_with g l (r ∷ (ts ++ fs)) n.side s' (settled n.side number w.left (fate_in s n w) mine) w.rest
    (next-tells g (known_of s') l r (ts ++ fs) (plain-fine g (known_of s) l r plainly k)
    (append-tells g (known_of s') (known_of s') (listen l r) ts fs
    (trades_tell (set_given s number) (listen l r) n.side number w.fills (knows_more g (known_of s) l r plainly k) p)
    (λ m. let same = sym (trades_leave (set_given s number) w.fills).time in
    plain-tells g (known_of s') fs (fate_each _ s.clock.time number w.left (fate_in s n w) (λ o. (plain_convert g o, same)) (λ e. (plain-cancel g e, same))) _ m)))

-- ---- the other acts

dropped-tells : (s : Session) (number : ℕ) (why : Why) (side : Side) (mine theirs : List Order) (l : Listener) → KnowsOf s.settings l s →
    TellsOf s.settings l (dropped s number why side mine theirs).reports (dropped s number why side mine theirs).day.session
unfolding dropped
dropped-tells s number why side mine theirs l k =
    let r : Report = ended s.clock.time number (left_of number mine) why in
    tells_with s.settings l (r ∷ []) side s (removed number mine) theirs
    (plain-tells s.settings (known_of s) (r ∷ []) (each_one _ r (plain-cancel s.settings _, refl)) l k)

-- an act that only sets the session tells a listener nothing: the underlying is no concern of his
sets_tells : {s s' : Session} {a : Act} → Sets s a s' → (l : Listener) → KnowsOf s.settings l s → TellsOf s.settings l [] s'
sets_tells {s} (sets_under price) l k = none-tells s.settings (known_of s) l k
sets_tells {s} sets_none l k = none-tells s.settings (known_of s) l k

ends-tells : (d : Day) (settle : ℕ) (l : Listener) → KnowsOf d.session.settings l d.session →
    TellsOf d.session.settings l (ends d settle).reports (ends d settle).day.session
unfolding finished
ends-tells d settle l k =
    let s : Session = d.session in
    plain-tells s.settings (known_of s) (ends d settle).reports
    (finished_each _ s s.clock.time settle d.buys d.sells (λ e. (plain-cancel s.settings e, refl)) (λ c. (plain_close s.settings c, refl))) l k

-- ---- an act

-- from what is done on a day, a listener who knew the day before knows the day after
abbrev Heard : Settings → Day → Acted → Type 0
Heard g d a = (l : Listener) → KnowsOf g l d.session → TellsOf g l a.reports a.day.session

heard_then : (g : Settings) → Chains (Heard g)
heard_then g d a b h k l m = append-tells g (known_of a.day.session) (known_of b.day.session) l a.reports b.reports (h l m) (λ q. k _ q)

-- the orders of both sides are in the band
abbrev Banded : Day → Type 0
Banded d = (side : Side) → EachPrice (λ p. in_band (band_now d.session) p ≡ true) (across side d)

does-tells : (d : Day) (a : Act) → Banded d → Heard d.session.settings d (does d a)
does-tells d a h =
    does_by (Heard d.session.settings d) d a
    (λ n e l k. entered-tells d.session n (own n.side d) _ l k (fills_good d.session n (across n.side d) (h n.side)))
    (λ number e l k. dropped-tells d.session number Asked (side_of number d.buys) _ _ l k)
    (λ s q l k. sets_tells q l k)
    (λ settle e l k. ends-tells d settle l k)

-- ---- an event

-- the orders of a sound book are in its band
across-banded : (side : Side) (d : Day) → sound d ≡ true → EachPrice (λ p. in_band (band_now d.session) p ≡ true) (across side d)
across-banded side d h =
    let s : Session = d.session in
    let f : BookFits s.live.given s.settings.tick (band_now s) d.buys d.sells =
    book-fits s.live.given s.settings.tick (band_now s) d.buys d.sells (sound-day d h).book in
    banded side s f
  where
    inside : (s : Session) (os : List Order) → Each (OrderFits s.live.given s.settings.tick (band_now s)) os →
        EachPrice (λ p. in_band (band_now s) p ≡ true) os
    inside s os e = each_map (OrderFits s.live.given s.settings.tick (band_now s)) (λ o. in_band (band_now s) o.price ≡ true) (λ o k. k.banded) os e

    banded : (side : Side) (s : Session) → BookFits s.live.given s.settings.tick (band_now s) d.buys d.sells →
        EachPrice (λ p. in_band (band_now s) p ≡ true) (across side d)
    banded Buy s f = inside s d.sells (each_fits s.live.given s.settings.tick (band_now s) d.sells f.each_sell)
    banded Sell s f = inside s d.buys (each_fits s.live.given s.settings.tick (band_now s) d.buys f.each_buy)

-- and they stay in it over the clock steps
still_banded : (d : Day) (t : ℕ) → sound d ≡ true → Banded (stepped d t).day
still_banded d t h side =
    rw (across_by side (clock_step d.session t) d)
    (each_map (λ o. in_band (band_now d.session) o.price ≡ true) (λ o. in_band (band_now (clock_step d.session t)) o.price ≡ true)
    (λ o e. band_stays d.session t o.price e) (across side d) (across-banded side d h))

timed-banded : (d : Day) (t : ℕ) → sound d ≡ true → Banded (timed d t).day
timed-banded d t h side = rw (across_by side (set_time d.session t) d) (across-banded side d h)

-- where only the time moves on, nothing new is to be known
timed-tells : (d : Day) (t : ℕ) → d.session.clock.time ≤ t → Heard d.session.settings d (timed d t)
timed-tells d t m l k =
    none-tells d.session.settings (known_of (set_time d.session t)) l
    (record { band-same = k.band-same; reference-same = k.reference-same; time_past = omega (arith, k.time_past); cooled = k.cooled })

-- a cooling-off runs only in the initial slab
slab_initial : (d : Day) → sound d ≡ true → (eqb d.session.clock.widened 0 || eqb d.session.clock.cooling 0) ≡ true
slab_initial d h = (sound-day d h).parts.timed.initial

-- EACH REPORT IS FINE, given what was told before it
pub act-tells : (d : Day) (e : Event) (l : Listener) → sound d ≡ true → d.session.clock.time ≤ e.time → KnowsOf d.session.settings l d.session →
    TellsOf d.session.settings l (act d e).reports (act d e).day.session
unfolding clock_step
act-tells d e l h m k =
    let g : Settings = d.session.settings in
    begun_by (Heard g d) d e
    (λ z. heard_then g d (timed d e.time) (does (timed d e.time).day e.act) (timed-tells d e.time m)
    (does-tells (timed d e.time).day e.act (timed-banded d e.time h)))
    (λ z. heard_then g d (stepped d e.time) (does (stepped d e.time).day e.act) (λ l k. clock_tells d.session e.time l m (slab_initial d h) k)
    (does-tells (stepped d e.time).day e.act (still_banded d e.time h)))
    l k

-- ---- the settings stay, and the time is the event's

pub record Moved (s : Session) (t : ℕ) (s' : Session) : Type 0 where
  pub settings : s'.settings ≡ s.settings
  pub time : s'.clock.time ≡ t

moved_with : (side : Side) (s₀ : Session) (t : ℕ) (s : Session) (mine theirs : List Order) → s.settings ≡ s₀.settings → s.clock.time ≡ t →
    Moved s₀ t (day_with side s mine theirs).session
moved_with Buy s₀ t s mine theirs e f = record { settings = e; time = f }
moved_with Sell s₀ t s mine theirs e f = record { settings = e; time = f }

does-moved : (d : Day) (a : Act) → Moved d.session d.session.clock.time (does d a).day.session
unfolding entered dropped finished
does-moved d a =
    let s : Session = d.session in
    does_by (λ (x : Acted). Moved s s.clock.time x.day.session) d a
    (λ n e. let u = trades_leave (set_given s (s.live.given + 1)) (sweep_in s n (across n.side d)).fills in
    moved_with n.side s s.clock.time (with_trades (set_given s (s.live.given + 1)) _) _ _ u.settings u.time)
    (λ number e. moved_with (side_of number d.buys) s s.clock.time s _ _ refl refl)
    (λ s' q. record { settings = (sets_alike q).settings; time = (sets_alike q).time })
    (λ settle e. record { settings = refl; time = refl })

pub act-moved : (d : Day) (e : Event) → Moved d.session e.time (act d e).day.session
unfolding clock_step
act-moved d e =
    begun_by (λ (x : Acted). Moved d.session e.time x.day.session) d e
    (λ h. let m = does-moved (timed d e.time).day e.act in record { settings = m.settings; time = m.time })
    (λ h. let m = does-moved (stepped d e.time).day e.act in record { settings = m.settings; time = m.time })
