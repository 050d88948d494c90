-- An order is accepted and matched: its calls may be made, and together they leave what the definition says.
use Prim.Native.Nat.{ℕ, ◌+◌, ◌*◌, ◌≤◌}
use native.Mathlib.Omega.{arith}
use mathlib.Core.Path.{◌≡◌, ap, ◌∙◌, refl}
use mathlib.Core.List.{List, [], ◌∷◌, ◌++◌}
use lib.ListN.{length, take, drop, length-take}
use lib.Seq.{drop_at}
use Rattle.terms.specs.declared.Band.{Band}
use Rattle.terms.specs.declared.Entry.{Entry}
use Rattle.terms.specs.declared.Order.{Order}
use Rattle.terms.specs.declared.Report.{Report}
use Rattle.terms.specs.declared.Said.TheVariants.{Accept}
use Rattle.tables.specs.Lengths.{record_length}
use Rattle.tables.specs.Records.{records_of}
use Rattle.rules_law.specs.Reference.{RangeFits}
use Rattle.tables.specs.Put.{put}
use Rattle.tables.specs.Tables.{decode, table_of}
use Rattle.tables.proofs.Slots.{length-decode}
use Rattle.tables.proofs.Puts.{length-put}
use Rattle.tables.proofs.Records.{length_records}
use Rattle.matching_law.specs.declared.Incoming.{Incoming}
use Rattle.matching_law.specs.declared.Matched.{Matched}
use Rattle.matching_law.specs.code.Sweeps.{swept_of, SweptInto}
use Rattle.book_law.specs.Over.{Each}
use Rattle.book_law.specs.Matching.{Swept, part, report_at, trade_reports, own_last_or}
use Rattle.book_law.proofs.Conserve.{Fewer, sweep_fewer}
use Rattle.book_law.proofs.Fills.{EachSwept, each_swept}
use Rattle.book_law.proofs.Remainder.{length-trades}
use Rattle.state_law.specs.declared.Session.{Session}
use Rattle.state_law.specs.Set.{set_given}
use Rattle.state_law.specs.Now.{band_now}
use Rattle.state_law.specs.Trades.{with_trades}
use Rattle.acts_law.specs.Acts.{last_in, sweep_in}
use Rattle.acts_law.specs.code.Written.{Written, fills_at, Deals, Remembering}
use Rattle.acts_law.specs.declared.Crossed.{Crossed}
use Rattle.acts_law.specs.code.Entering.{incoming_in, Meeting, CrossedAs, MetAs}
use Rattle.acts_law.proofs.Reports.{written-length, written_then}
use Rattle.acts_law.proofs.Recalled.{recalls, deals_each}

-- what is put at a place stands there, and what stood behind it follows
behind : (t : List ℕ) (at : ℕ) (vs : List ℕ) → at ≤ length t → drop at (put t at vs) ≡ vs ++ drop (length vs) (drop at t)
unfolding put
behind t at vs h = drop_at (take at t) (vs ++ drop (length vs) (drop at t)) at (simp length-take (omega arith))

deals-part : (o : Order) (k : ℕ) → 1 ≤ k → k ≤ o.lots → Deals o → Deals (part o k)
deals-part o k l m d = record { price_small = d.price_small; lots_some = l; lots_small = omega (arith, d.lots_small) }

pub sweep-range : {s : Session} {band : Band} (n : Entry) {count at : ℕ} {t room : List ℕ} {x : Incoming} → Meeting s band count t room at →
    x ≡ incoming_in s n (s.live.given + 1) → RangeFits x.range
sweep-range n g e = rw e g.ranged

module _ (s : Session) (band : Band) (n : Entry) (count : ℕ) (t room : List ℕ) (at : ℕ) (g : Meeting s band count t room at)
    (x : Incoming) (xe : x ≡ incoming_in s n (s.live.given + 1)) (room₁ : List ℕ) (first : ℕ) (w : Written room at (report_at s.clock.time (Accept (s.live.given + 1)) ∷ []) room₁ first) where
  same_length : length room₁ ≡ length room
  same_length = written-length room at (report_at s.clock.time (Accept (s.live.given + 1)) ∷ []) room₁ first w (omega (arith, g.space))

  pub sweep-space : first + record_length * count ≤ length room₁
  sweep-space = omega (arith, g.space, w.behind, same_length)

  module _ (t' room' : List ℕ) (m : Matched) (k : SweptInto x (decode count t) t room₁ first t' room' m) where
    abbrev swept : Swept
    swept = sweep_in s n (decode count t)

    swept_is : swept_of x (decode count t) ≡ swept
    unfolding sweep_in
    swept_is = rw xe

    few : length swept.fills ≤ count
    unfolding sweep_in
    few =
        let f : Fewer (decode count t) swept = sweep_fewer _ 0 n.lots (decode count t) in
        omega (arith, f.fills, length-decode count t)

    last_is : own_last_or x.last (swept_of x (decode count t)).fills ≡ own_last_or (last_in s) swept.fills
    unfolding sweep_in
    last_is = ap (λ (y : Incoming). own_last_or y.last (swept_of y (decode count t)).fills) xe

    trades_is : m.trades ≡ length swept.fills
    trades_is = ap (λ (r : Matched). r.trades) k.answer ∙ ap (λ (v : Swept). length v.fills) swept_is

    abbrev trade_reports_lem : List Report
    trade_reports_lem = trade_reports s.clock.time n.side (s.live.given + 1) swept.fills

    laid : room' ≡ put room₁ first (records_of trade_reports_lem)
    unfolding sweep_in
    laid = k.told ∙ ap (λ (y : Incoming). put room₁ first (records_of (trade_reports y.time y.side y.number (swept_of y (decode count t)).fills))) xe

    stands : drop first room' ≡ records_of trade_reports_lem ++ drop (length (records_of trade_reports_lem)) (drop first room₁)
    stands = rw laid (behind room₁ first (records_of trade_reports_lem) (omega (arith, g.space, w.behind, same_length)))

    trade_space : first + record_length * length swept.fills ≤ length room₁
    trade_space = omega (arith, g.space, w.behind, same_length, few)

    kept-length : length room' ≡ length room₁
    kept-length = rw laid (length-put room₁ first (records_of trade_reports_lem)
        (omega (arith, trade_space, length_records trade_reports_lem, length-trades s.clock.time n.side (s.live.given + 1) swept.fills)))

    fills-deal : Each Deals swept.fills
    unfolding sweep_in
    fills-deal =
        let e : EachSwept Deals swept = each_swept Deals deals-part _ 0 n.lots (decode count t) g.deals in
        e.fills

    remembers : Remembering (set_given s (s.live.given + 1)) (band_now s) room' first m.trades
    remembers =
        rw trades_is (
        record {
          fits = omega (arith, g.fits, few);
          banded = refl;
          few = omega (arith, few, g.holds.few);
          space = omega (arith, trade_space, kept-length);
          deals = rw stands (record { at = deals_each s.clock.time n.side (s.live.given + 1) (drop (length (records_of trade_reports_lem)) (drop first room₁)) swept.fills fills-deal });
        }
        )

    pub crossed : CrossedAs s n (decode count t) t room at t' room' (record { first = first; matched = m })
    crossed =
        let a : m.at ≡ first + record_length * length swept.fills = ap (λ (r : Matched). r.at) k.answer ∙ ap (λ (v : Swept). first + record_length * length v.fills) swept_is in
        let told : Written room₁ first trade_reports_lem room' m.at =
        record { laid = laid; behind = omega (arith, a, length-trades s.clock.time n.side (s.live.given + 1) swept.fills) } in
        record {
          book = k.book ∙ ap (λ (v : Swept). table_of v.rest t) swept_is;
          count = ap (λ (r : Matched). r.count) k.answer ∙ ap (λ (v : Swept). length v.rest) swept_is;
          told = written_then room at (report_at s.clock.time (Accept (s.live.given + 1)) ∷ []) room₁ first trade_reports_lem room' m.at w told (omega (arith, g.space));
          fits = omega (arith, g.space, few, length-trades s.clock.time n.side (s.live.given + 1) swept.fills);
          left = ap (λ (r : Matched). r.left) k.answer ∙ ap (λ (v : Swept). v.left) swept_is;
          last = ap (λ (r : Matched). r.last) k.answer ∙ last_is;
          out = ap (λ (r : Matched). r.out) k.answer ∙ ap (λ (v : Swept). v.out) swept_is;
          few = omega (arith, a, few, w.behind, length-decode count t);
          remembers = remembers;
          recalled = rw (trades_is, stands) (recalls s.clock.time n.side (s.live.given + 1) (drop (length (records_of trade_reports_lem)) (drop first room₁)) (set_given s (s.live.given + 1)) swept.fills);
        }

-- the band that code hands on is the one in force, so the trades may be made under it
pub cross_asks : {s : Session} {band : Band} {count at : ℕ} {t room : List ℕ} → Meeting s band count t room at → Meeting s (band_now s) count t room at
cross_asks g =
    record { banded = refl; given_few = g.given_few; ranged = g.ranged; holds = g.holds; space = g.space; fits = g.fits; deals = g.deals }

module _ {s : Session} {n : Entry} {os : List Order} {t room t' room' : List ℕ} {at : ℕ} {r : Crossed} (k : CrossedAs s n os t room at t' room' r) where
  pub remember_asks : {band : Band} {count : ℕ} {t₀ : List ℕ} → Meeting s band count t₀ room at → Remembering (set_given s (s.live.given + 1)) band room' r.first r.matched.trades
  remember_asks g = rw g.banded k.remembers

  pub met : {after : Session} → after ≡ with_trades (set_given s (s.live.given + 1)) (fills_at r.matched.trades (drop r.first room')) →
      MetAs s n os t room at t' room' (record { session = after; count = r.matched.count; at = r.matched.at; left = r.matched.left; last = r.matched.last; out = r.matched.out })
  met e =
      record {
        book = k.book;
        count = k.count;
        told = k.told;
        fits = k.fits;
        session = e ∙ k.recalled;
        left = k.left;
        last = k.last;
        out = k.out;
        few = k.few;
      }
