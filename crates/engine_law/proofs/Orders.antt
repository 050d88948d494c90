-- What an order leaves on both tables is proved once, for its own side's table and the one across.
use Prim.Native.Nat.{ℕ, ◌+◌, ◌≤◌, ◌<◌}
use native.Mathlib.Omega.{arith}
use mathlib.Core.Path.{◌≡◌, ap, sym, refl, ◌∙◌}
use mathlib.Core.Bool.{true}
use mathlib.Core.List.{List, ◌++◌}
use borrow.Author.Tests.{ltb-true}
use lib.ListN.{length}
use Rattle.terms.specs.declared.Act.TheVariants.{Enter}
use Rattle.terms.specs.declared.Entry.{Entry}
use Rattle.terms.specs.declared.Life.{Life}
use Rattle.terms.specs.declared.Life.TheVariants.{AllDay}
use Rattle.terms.specs.declared.Order.{Order}
use Rattle.terms.specs.declared.Side.{Side}
use Rattle.terms.specs.declared.Side.TheVariants.{Buy, Sell}
use Rattle.terms.specs.Sizes.{slots, numbers_most, trades_before, sizes}
use Rattle.tables.specs.Tables.{decode, table_of}
use Rattle.tables.proofs.Slots.{length-decode}
use Rattle.tables.proofs.Whole.{After}
use Rattle.book_law.specs.Over.{Each}
use Rattle.book_law.specs.Matching.{Swept, settled}
use Rattle.state_law.specs.declared.Session.{Session}
use Rattle.state_law.specs.Set.{set_given}
use Rattle.state_law.specs.Clock.{clock_step}
use Rattle.state_law.specs.Trades.{with_trades}
use Rattle.state_law.specs.Day.{own}
use Rattle.soundness_law.specs.Sound.{day_in}
use Rattle.refusal_law.specs.Refusals.{life_has_place, has_place}
use Rattle.refusal_law.proofs.Accepted.{numbers-left}
use Rattle.acts_law.specs.Acts.{clock_reports, act, sweep_in, fate_in, entered}
use Rattle.acts_law.specs.code.Written.{Written, Deals}
use Rattle.acts_law.specs.declared.Entered.{Entered}
use Rattle.acts_law.specs.code.Entering.{Entering, EnteredAs}
use Rattle.acts_law.proofs.Reports.{written_then}
use Rattle.engine_law.specs.declared.Applied.{Applied}
use Rattle.engine_law.specs.Calls.{event_at, Ready, ActedAs}
use Rattle.engine_law.specs.declared.Begun.{Begun}
use Rattle.engine_law.specs.code.Steps.{BegunAs, OrderedAs, EntersOn, OrderedOn}
use Rattle.engine_law.proofs.Starts.{accepts, clocked-after, trades_fit, buys-deal, sells-deal, after-buys, after-sells, same-room, behind_clock, clock_space}
use Rattle.engine_law.proofs.Dones.{done_as}

has_place_lem : (life : Life) (held : ℕ) → life_has_place sizes life held ≡ true → life ≡ AllDay → held < slots
has_place_lem life held h e = ltb-true held slots (rw e at h)

module _ {s : Session} {t : ℕ} {n : Entry} {buys sells room : List ℕ} (r : Ready s t (Enter n) buys sells room) where
  numbered : (s.live.given < numbers_most) × (s.tape.trades ≤ trades_before)
  numbered = numbers-left (day_in s buys sells) (event_at t (Enter n)) (accepts r) n refl

  placed : life_has_place sizes n.life (length (own n.side (day_in s buys sells))) ≡ true
  unfolding has_place
  placed = (accepts r).placed

  module _ {buys₁ sells₁ room₁ : List ℕ} {b : Begun} (k : BegunAs s t buys sells room buys₁ sells₁ room₁ b) where
    -- what an order must find, whichever of the two sides is its own
    enter_asks : (nmine ntheirs : ℕ) (mine theirs mine₁ theirs₁ : List ℕ) → After nmine (decode nmine mine) mine mine₁ → After ntheirs (decode ntheirs theirs) theirs theirs₁ →
        own n.side (day_in s buys sells) ≡ decode nmine mine → Each Deals (decode ntheirs theirs) → Entering b.session n nmine mine₁ ntheirs theirs₁ room₁ b.at
    unfolding clock_step
    enter_asks nmine ntheirs mine theirs mine₁ theirs₁ p q o deal =
        record {
          clocked = rw k.session (clocked-after r refl);
          given_few = rw k.session numbered.0;
          holds_mine = p.holds;
          holds_theirs = q.holds;
          place = λ l. omega (arith, has_place_lem n.life _ (rw o at placed) l, length-decode nmine mine);
          space = omega (arith, q.holds.few, behind_clock k, same-room k, r.room_long);
          fits = rw k.session (trades_fit r refl ntheirs q.holds.few numbered.1);
          deals = rw q.reads deal;
        }

    buy_enters : n.side ≡ Buy → Entering b.session n s.live.buys buys₁ s.live.sells sells₁ room₁ b.at
    buy_enters side = enter_asks s.live.buys s.live.sells buys sells buys₁ sells₁ (after-buys k) (after-sells k) (rw side) (sells-deal r refl)

    sell_enters : n.side ≡ Sell → Entering b.session n s.live.sells sells₁ s.live.buys buys₁ room₁ b.at
    sell_enters side = enter_asks s.live.sells s.live.buys sells buys sells₁ buys₁ (after-sells k) (after-buys k) (rw side) (buys-deal r refl)

    pub enters_on : EntersOn b.session n s.live.buys buys₁ s.live.sells sells₁ room₁ b.at
    enters_on = record { a_buy = buy_enters; a_sell = sell_enters }

module _ {s : Session} {t : ℕ} (n : Entry) {buys sells room buys₁ sells₁ room₁ : List ℕ} {b : Begun} (k : BegunAs s t buys sells room buys₁ sells₁ room₁ b) where
  -- what an order leaves, whichever of the two sides is its own
  module _ (nmine ntheirs : ℕ) (mine theirs mine₁ theirs₁ : List ℕ) (p : After nmine (decode nmine mine) mine mine₁) (q : After ntheirs (decode ntheirs theirs) theirs theirs₁) where
    abbrev swept : Swept
    swept = sweep_in b.session n (decode ntheirs theirs)

    abbrev left : List Order
    left = settled n.side (b.session.live.given + 1) swept.left (fate_in b.session n swept) (decode nmine mine)

    -- what the calls leave is what the definition says
    pub record Left (mine₂ theirs₂ room₂ : List ℕ) (f : Entered) : Type 0 where
      pub booked : mine₂ ≡ table_of left mine
      pub countered : theirs₂ ≡ table_of swept.rest theirs
      pub nown : f.mine ≡ length left
      pub nacross : f.theirs ≡ length swept.rest
      pub session : f.session ≡ with_trades (set_given b.session (b.session.live.given + 1)) swept.fills
      pub told : Written room 0 (clock_reports s b.session ++ (entered b.session n (decode nmine mine) swept).reports) room₂ f.at

    pub left_as : (mine₂ theirs₂ room₂ : List ℕ) (f : Entered) →
        EnteredAs b.session n (decode nmine mine₁) (decode ntheirs theirs₁) mine₁ theirs₁ room₁ b.at mine₂ theirs₂ room₂ f → Left mine₂ theirs₂ room₂ f
    left_as mine₂ theirs₂ room₂ f v =
        let w = rw (p.reads, q.reads) at v in
        record {
          booked = w.booked ∙ p.past _;
          countered = w.countered ∙ q.past _;
          nown = w.nmine;
          nacross = w.ntheirs;
          session = w.session;
          told = written_then room 0 (clock_reports s b.session) room₁ b.at _ room₂ f.at k.stepped.told w.told (clock_space k);
        }

  module _ {buys₂ sells₂ room₂ : List ℕ} {r : Applied} where
    -- for a buy, its own side is that of the buys
    buy_ordered : n.side ≡ Buy → OrderedAs Buy b.session n s.live.buys buys₁ s.live.sells sells₁ room₁ b.at buys₂ sells₂ room₂ r →
        ActedAs (act (day_in s buys sells) (event_at t (Enter n))) buys sells room buys₂ sells₂ room₂ r
    unfolding act entered
    buy_ordered side o =
        let f : Entered = o.order in
        let l = left_as s.live.buys s.live.sells buys sells buys₁ sells₁ (after-buys k) (after-sells k) buys₂ sells₂ room₂ f o.entered in
        let w : Swept = sweep_in b.session n (decode s.live.sells sells) in
        rw o.answer
        (done_as (act (day_in s buys sells) (event_at t (Enter n))) f.session (settled n.side (b.session.live.given + 1) w.left (fate_in b.session n w) (decode s.live.buys buys)) w.rest f.mine f.theirs f.at buys sells room buys₂ sells₂ room₂
        (rw (l.session, side, ← k.session)) l.nown l.nacross l.booked l.countered (rw (side, ← k.session) (rw side at l.told)))

    -- for a sell, its own side is that of the sells
    sell_ordered : n.side ≡ Sell → OrderedAs Sell b.session n s.live.sells sells₁ s.live.buys buys₁ room₁ b.at sells₂ buys₂ room₂ r →
        ActedAs (act (day_in s buys sells) (event_at t (Enter n))) buys sells room buys₂ sells₂ room₂ r
    unfolding act entered
    sell_ordered side o =
        let f : Entered = o.order in
        let l = left_as s.live.sells s.live.buys sells buys sells₁ buys₁ (after-sells k) (after-buys k) sells₂ buys₂ room₂ f o.entered in
        let w : Swept = sweep_in b.session n (decode s.live.buys buys) in
        rw o.answer
        (done_as (act (day_in s buys sells) (event_at t (Enter n))) f.session w.rest (settled n.side (b.session.live.given + 1) w.left (fate_in b.session n w) (decode s.live.sells sells)) f.theirs f.mine f.at buys sells room buys₂ sells₂ room₂
        (rw (l.session, side, ← k.session)) l.nacross l.nown l.countered l.booked (rw (side, ← k.session) (rw side at l.told)))

    pub ordered_done : OrderedOn b.session n s.live.buys buys₁ s.live.sells sells₁ room₁ b.at buys₂ sells₂ room₂ r →
        ActedAs (act (day_in s buys sells) (event_at t (Enter n))) buys sells room buys₂ sells₂ room₂ r
    ordered_done o = by_side n.side refl
      where
        by_side : (side : Side) → n.side ≡ side → ActedAs (act (day_in s buys sells) (event_at t (Enter n))) buys sells room buys₂ sells₂ room₂ r
        by_side Buy e = buy_ordered e (o.a_buy e)
        by_side Sell e = sell_ordered e (o.a_sell e)

-- ---- an order by its side

abbrev number : Side → ℕ
number Buy = 1
number Sell = 2

no_both : (side : Side) → side ≡ Buy → side ≡ Sell → ⊥
no_both side b s = let z : ◌≡◌ {A = ℕ} 1 2 = ap number (sym b ∙ s) in omega arith

module _ {s : Session} {n : Entry} {nbuys nsells at : ℕ} {buys sells room : List ℕ} where
  pub buys_enter : EntersOn s n nbuys buys nsells sells room at → n.side ≡ Buy → Entering s n nbuys buys nsells sells room at
  buys_enter o e = o.a_buy e

  pub sells_enter : EntersOn s n nbuys buys nsells sells room at → n.side ≡ Sell → Entering s n nsells sells nbuys buys room at
  sells_enter o e = o.a_sell e

  module _ {buys' sells' room' : List ℕ} {r : Applied} where
    pub buys_ordered : n.side ≡ Buy → OrderedAs Buy s n nbuys buys nsells sells room at buys' sells' room' r →
        OrderedOn s n nbuys buys nsells sells room at buys' sells' room' r
    buys_ordered e o = record { a_buy = λ _. o; a_sell = λ f. absurd (no_both n.side e f) }

    pub sells_ordered : n.side ≡ Sell → OrderedAs Sell s n nsells sells nbuys buys room at sells' buys' room' r →
        OrderedOn s n nbuys buys nsells sells room at buys' sells' room' r
    sells_ordered e o = record { a_buy = λ f. absurd (no_both n.side f e); a_sell = λ _. o }
