-- An accepted event leaves a sound day: the clock steps and each act keep the numbers and the book sound.
use Prim.Native.Nat.{ℕ, ◌+◌, ◌≤◌, ◌<◌}
use native.Mathlib.Omega.{arith}
use native.Mathlib.Nat.{le_refl}
use borrow.Author.Tests.{leb-true, ltb-true}
use mathlib.Core.Path.{◌≡◌, refl, sym, ap, ◌∙◌, subst₃}
use mathlib.Core.Bool.{true, false, ◌||◌}
use mathlib.Core.List.{List, []}
use lib.Dec.{ltb}
use lib.ListN.{length}
use Rattle.std.specs.Prelude.{Some}
use Rattle.terms.specs.declared.Settings.{Settings}
use Rattle.terms.specs.declared.Order.{Order}
use Rattle.terms.specs.declared.Entry.{Entry}
use Rattle.terms.specs.declared.Event.{Event}
use Rattle.terms.specs.declared.Act.{Act}
use Rattle.terms.specs.declared.Act.TheVariants.{Enter}
use Rattle.terms.specs.declared.Side.{Side}
use Rattle.terms.specs.declared.Side.TheVariants.{Buy, Sell}
use Rattle.terms.specs.declared.Kind.{Kind}
use Rattle.terms.specs.declared.Life.{Life}
use Rattle.terms.specs.declared.Why.{Why}
use Rattle.terms.specs.declared.Why.TheVariants.{Asked}
use Rattle.terms.specs.Sizes.{slots, price_most, time_most, numbers_most, trades_before}
use Rattle.terms.proofs.Logic.{or-last}
use Rattle.terms.proofs.Valid.{valid_facts}
use Rattle.rules_law.specs.declared.Range.{Range}
use Rattle.rules_law.specs.Slabs.{slab_of, percent_of, band_at}
use Rattle.book_law.specs.Priority.{other_side, removed}
use Rattle.book_law.specs.Matching.{taker, Swept, sweep, settled}
use Rattle.book_law.specs.Over.{Each}
use Rattle.book_sound_law.specs.Sound.{book_sound, on_side, OrderFits}
use Rattle.book_sound_law.proofs.Facts.{book-fits, empty_sound}
use Rattle.book_sound_law.proofs.Enters.{Admitted, own_after, wider_sound, removed-sound, fills-sound, entered-sound}
use Rattle.state_law.specs.declared.Session.{Session}
use Rattle.state_law.specs.Set.{set_time, set_closed, set_given}
use Rattle.state_law.specs.Now.{band_now}
use Rattle.state_law.specs.Clock.{clock_step}
use Rattle.state_law.specs.Trades.{with_trades}
use Rattle.state_law.specs.Day.{Day, own, across}
use Rattle.state_law.proofs.Steps.{band_stays}
use Rattle.state_law.proofs.Leaves.{Untouched, trades_leave}
use Rattle.soundness_law.specs.Sound.{sound}
use Rattle.soundness_law.proofs.Parts.{Parts}
use Rattle.soundness_law.proofs.Kept.{Tradable, clock_kept, trades-kept, given-kept, under_kept, closed_kept, last-ticked}
use Rattle.soundness_law.proofs.Days.{BookOf, SoundDay, sound-day, day-sound, each_tradable}
use Rattle.terms.specs.declared.parts.Parts.{Parts as Carried}
use Rattle.terms.specs.Carried.{limit_of, carries}
use Rattle.refusal_law.proofs.Accepted.{Accepted, time_right, lots-right, price-right, in_day, numbers-left, tick_right, band-right, place-right}
use Rattle.acts_law.specs.Acts.{Acted, sweep_in, last_in, fate_in, entered, dropped, side_of, silent, finished, stepped, timed, act}
use Rattle.acts_law.proofs.Does.{Sets, sets_under, sets_none, sets_alike, enters, ends, own_by, event_by}
use Rattle.acts_law.proofs.Few.{swept_few}

-- ---- what an act starts from: the day after the clock steps, whose numbers and book are sound

pub record Ready (d : Day) : Type 0 where
  pub parts : Parts d.session
  pub book : BookOf d.session d.buys d.sells

pub ready : (d : Day) (t : ℕ) → sound d ≡ true → d.session.clock.time ≤ t → t ≤ time_most →
    (d.session.clock.closed || ltb t d.session.settings.length) ≡ true →
    Ready (stepped d t).day
unfolding clock_step
ready d t h k m u =
    let s : Session = d.session in
    let w : SoundDay d = sound-day d h in
    record {
      parts = clock_kept s t k m u w.parts;
      book = wider_sound s.live.given s.settings.tick (band_now s) d.buys d.sells w.book Buy s.live.given (band_now (clock_step s t))
          (le_refl s.live.given) (λ x. band_stays s t x);
    }

-- ---- an order

-- the book of a side's own orders and those across is sound, by the three fields of a session that decide it
abbrev BookBy : Side → List Order → List Order → ℕ → Settings → ℕ → Type 0
BookBy side own across given g widened =
    book_sound given g.tick (band_at g.base g.tick (percent_of (slab_of g.category) widened))
    (on_side side own across) (on_side (other_side side) own across) ≡ true

-- what is known of an order that no row refused
abbrev Admits : Session → Life → Kind → ℕ → ℕ → Type 0
Admits s life kind lots count = Admitted life kind s.settings.tick (band_now s) lots (last_in s) count

module _ (s : Session) (d : Day) (h : BookOf s d.buys d.sells) (life : Life) (kind : Kind) (range : Range) (lots : ℕ) where
  -- its sweep, whatever the range is
  abbrev meets : Side → Swept
  meets side = sweep (taker side kind range) 0 lots (across side d)

  abbrev After : Side → Swept → Type 0
  After side w =
      BookBy side (own_after side life kind (band_now s) (last_in s) (s.live.given + 1) (own side d) w) w.rest (s.live.given + 1) s.settings s.clock.widened

  entered-book : (side : Side) → Admits s life kind lots (length (own side d)) → After side (meets side)
  entered-book Buy a = entered-sound s.live.given s.settings.tick (band_now s) d.buys d.sells h Buy life kind range lots (last_in s) a
  entered-book Sell a = entered-sound s.live.given s.settings.tick (band_now s) d.buys d.sells h Sell life kind range lots (last_in s) a

  pub fills_fit : (side : Side) → Each (OrderFits s.live.given s.settings.tick (band_now s)) (meets side).fills
  fills_fit Buy = fills-sound s.live.given s.settings.tick (band_now s) d.buys d.sells h Buy (taker Buy kind range) 0 lots
  fills_fit Sell = fills-sound s.live.given s.settings.tick (band_now s) d.buys d.sells h Sell (taker Sell kind range) 0 lots

across-few : (s : Session) (d : Day) → BookOf s d.buys d.sells → (side : Side) → length (across side d) ≤ slots
across-few s d h Buy = (book-fits s.live.given s.settings.tick (band_now s) d.buys d.sells h).few_sells
across-few s d h Sell = (book-fits s.live.given s.settings.tick (band_now s) d.buys d.sells h).few_buys

-- an order that the rows let through, on the day after the clock steps
pub record Let (d : Day) (n : Entry) : Type 0 where
  pub day : Ready d
  pub admitted : Admits d.session n.life n.kind n.lots (length (own n.side d))
  pub given_few : d.session.live.given < numbers_most
  pub trades_few : d.session.tape.trades ≤ trades_before

entered_stays : (d : Day) (n : Entry) → Let d n → sound (enters d n).day ≡ true
unfolding entered fate_in sweep_in
entered_stays d n r =
    let s : Session = d.session in
    let side : Side = n.side in
    let w : Swept = sweep_in s n (across side d) in
    let number : ℕ = s.live.given + 1 in
    let s' : Session = with_trades (set_given s number) w.fills in
    let u : Untouched (set_given s number) s' = trades_leave (set_given s number) w.fills in
    let mine : List Order = settled side number w.left (fate_in s n w) (own side d) in
    let book = r.day.book in
    let parts = r.day.parts in
    let few : length w.fills ≤ slots = omega (arith, across-few s d book side, swept_few s n (across side d)) in
    let fit : Each (Tradable s.settings.tick) w.fills =
    each_tradable s w.fills (valid_facts s.settings parts.valid) (fills_fit s d book n.life n.kind _ n.lots side) in
    day-sound side s' mine w.rest
    (trades-kept (set_given s number) w.fills (omega (arith, r.trades_few)) fit (given-kept s number (omega (arith, r.given_few)) parts))
    (subst₃ (BookBy side mine w.rest) (sym u.given) (sym u.settings) (sym u.widened)
    (entered-book s d book n.life n.kind _ n.lots side r.admitted))

-- ---- the other acts

dropped_stays : (d : Day) (number : ℕ) (why : Why) (side : Side) → Ready d →
    sound (dropped d.session number why side (own side d) (across side d)).day ≡ true
unfolding dropped
dropped_stays d number why Buy r =
    let s : Session = d.session in
    day-sound Buy s (removed number d.buys) d.sells r.parts
    (removed-sound s.live.given s.settings.tick (band_now s) d.buys d.sells r.book Buy number)
dropped_stays d number why Sell r =
    let s : Session = d.session in
    day-sound Sell s (removed number d.sells) d.buys r.parts
    (removed-sound s.live.given s.settings.tick (band_now s) d.buys d.sells r.book Sell number)

-- an act that only sets the session leaves its numbers sound
sets_parts : {s s' : Session} {a : Act} → Sets s a s' → ((p : ℕ) → (carries a).price ≡ Some p → p ≤ price_most) → Parts s → Parts s'
sets_parts {s} (sets_under price) h p = under_kept s price (h price refl) p
sets_parts sets_none h p = p

silent_stays : (d : Day) (a : Act) (s : Session) → Sets d.session a s → ((p : ℕ) → (carries a).price ≡ Some p → p ≤ price_most) → Ready d →
    sound (silent s d).day ≡ true
silent_stays d a s q h r =
    let k = sets_alike q in
    day-sound Buy s d.buys d.sells (sets_parts q h r.parts) (rw (k.given, k.settings, k.widened) r.book)

finished_stays : (d : Day) (t settle : ℕ) → sound d ≡ true → d.session.clock.time ≤ t → t ≤ time_most → sound (ends (timed d t).day settle).day ≡ true
unfolding finished
finished_stays d t settle h k m =
    let s : Session = set_closed (set_time d.session t) true in
    day-sound Buy s [] [] (closed_kept d.session t k m (sound-day d h).parts) (empty_sound s.live.given s.settings.tick (band_now s))

-- ---- an event

module _ (d : Day) (e : Event) (k : Accepted d e) where
  -- what every event but the close starts from
  pub begins_ready : (carries e.act).closes ≡ false → Ready (stepped d e.time).day
  begins_ready c =
      ready d e.time k.whole (leb-true d.session.clock.time e.time k.forward) (time_right d e k)
      (or-last d.session.clock.closed (ltb e.time d.session.settings.length) (λ z. in_day d e k c))

  -- the steps leave the tick as it is, so a limit is judged by the session's tick
  pub lets : (n : Entry) → e.act ≡ Enter n → Let (stepped d e.time).day n
  unfolding clock_step
  lets n z =
      let c : carries e.act ≡ carries (Enter n) = ap carries z in
      let r : Ready (stepped d e.time).day = begins_ready (ap (λ (x : Carried). x.closes) c) in
      let few = numbers-left d e k n (ap (λ (x : Carried). x.entry) c) in
      record {
        day = r;
        admitted = record {
          few = (lots-right d e k n.lots (ap (λ (x : Carried). x.lots) c)).1;
          place = λ l. ltb-true (length (own n.side (stepped d e.time).day)) slots
              (rw (own_by n.side (clock_step d.session e.time) d) (rw l at (place-right d e k n (ap (λ (x : Carried). x.entry) c))));
          limit-ticked = λ p l. tick_right d e k p (ap (λ (x : Carried). x.ticked) c ∙ ap limit_of l);
          limit-banded = λ p l. band-right d e k p (ap (λ (x : Carried). x.limit) c ∙ ap limit_of l);
          last-ticked = last-ticked (clock_step d.session e.time) r.parts;
        };
        given_few = few.0;
        trades_few = few.1;
      }

  -- AN ACCEPTED EVENT LEAVES A SOUND DAY
  pub act_stays : sound (act d e).day ≡ true
  act_stays =
      event_by (λ (x : Acted). sound x.day ≡ true) d e
      (λ n z. entered_stays (stepped d e.time).day n (lets n z))
      (λ number z. dropped_stays (stepped d e.time).day number Asked (side_of number d.buys) (begins_ready (ap (λ (a : Act). (carries a).closes) z)))
      (λ s q. silent_stays (stepped d e.time).day e.act s q (λ p c. (price-right d e k p c).1) (begins_ready (sets_alike q).stays))
      (λ settle z. finished_stays d e.time settle k.whole (leb-true d.session.clock.time e.time k.forward) (time_right d e k))
