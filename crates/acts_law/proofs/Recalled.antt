-- Trades are read back from their records into the session one by one, and they are the fills that were reported.
use Prim.Native.Nat.{ℕ, zero, suc, ◌+◌, ◌-◌, ◌*◌, ◌≤◌, ◌<◌}
use native.Mathlib.Omega.{arith}
use mathlib.Core.Path.{◌≡◌, refl, sym, ap, ◌∙◌}
use mathlib.Core.List.{List, [], ◌∷◌, ◌++◌, append_assoc}
use lib.ListN.{length, get_or, drop}
use lib.Seq.{get_or-drop, drop-drop}
use Rattle.terms.specs.declared.Order.{Order}
use Rattle.terms.specs.declared.Band.{Band}
use Rattle.terms.specs.declared.Side.{Side}
use Rattle.terms.specs.declared.Side.TheVariants.{Buy, Sell}
use Rattle.terms.specs.Sizes.{price_most, lots_most}
use Rattle.tables.specs.Lengths.{record_length}
use Rattle.tables.specs.Records.{record_of, records_of}
use Rattle.terms.specs.declared.Report.{Report}
use Rattle.terms.specs.declared.Said.TheVariants.{Trade}
use Rattle.book_law.specs.Over.{Each}
use Rattle.book_law.specs.Matching.{report_at, deal_of, trade_reports}
use Rattle.state_law.specs.declared.Session.{Session}
use Rattle.state_law.specs.Now.{band_now}
use Rattle.state_law.specs.Trades.{with_trade, with_trades, TradesFit}
use Rattle.state_law.proofs.Fits.{fits_after, band-kept}
use Rattle.acts_law.specs.code.Written.{fill_at, fills_at, Deals, Remembering}

-- ---- in the code's loop

fewer : (s : Session) (j k : ℕ) → j ≤ k → TradesFit s k → TradesFit s j
fewer s j k h f = omega arith

-- a number of a record is read at its own place, counted from where the record begins
read_at_lem : (room : List ℕ) (p k : ℕ) → get_or (drop p room) k 0 ≡ get_or room (p + k) 0
read_at_lem room p k = get_or-drop p room k 0

pub record Recalling (band : Band) (room : List ℕ) (at n : ℕ) (s₀ s : Session) (i : ℕ) : Type 0 where
  pub could : Remembering s₀ band room at n
  pub places : i ≤ n
  pub fits : TradesFit s (n - i)
  pub banded : band ≡ band_now s
  pub rest : with_trades s₀ (fills_at n (drop at room)) ≡ with_trades s (fills_at (n - i) (drop (at + record_length * i) room))

pub recall_from : {s : Session} {band : Band} {room : List ℕ} {at n : ℕ} → Remembering s band room at n → Recalling band room at n s s 0
recall_from {s} {band} {room} {at} {n} g =
    let z : n - 0 ≡ n = omega arith in
    let p : at + record_length * 0 ≡ at = omega arith in
    record { could = g; places = omega arith; fits = rw z g.fits; banded = g.banded; rest = rw (z, p) }

module _ {band : Band} {room : List ℕ} {at n i : ℕ} {s₀ s : Session} (h : i < n) (r : Recalling band room at n s₀ s i) where
  -- the trade that the code reads is one that the session can take
  deals-at : Deals (record { number = 0; price = get_or room (at + record_length * i + 5) 0; lots = get_or room (at + record_length * i + 4) 0 })
  deals-at =
      let d = r.could.deals.at i h in
      let p : drop (record_length * i) (drop at room) ≡ drop (at + record_length * i) room = drop-drop (record_length * i) at room in
      rw (← read_at_lem room (at + record_length * i) 5, ← read_at_lem room (at + record_length * i) 4, ← p) d

  pub trade_asks : TradesFit s 1 × (band ≡ band_now s) × (get_or room (at + record_length * i + 5) 0 ≤ price_most) × (get_or room (at + record_length * i + 4) 0 ≤ lots_most)
  trade_asks = (fewer s 1 (n - i) (omega arith) r.fits, r.banded, deals-at.price_small, deals-at.lots_small)

  -- one more trade is remembered
  pub recall_next : {s' : Session} → s' ≡ with_trade s (get_or room (at + record_length * i + 5) 0) (get_or room (at + record_length * i + 4) 0) → Recalling band room at n s₀ s' (i + 1)
  unfolding fills_at with_trades
  recall_next w =
      let d = deals-at in
      let m : n - i ≡ suc (n - (i + 1)) = omega arith in
      let m₁ : n - i ≡ n - (i + 1) + 1 = omega arith in
      let k : at + record_length * i + record_length ≡ at + record_length * (i + 1) = omega arith in
      let q : drop record_length (drop (at + record_length * i) room) ≡ drop (at + record_length * (i + 1)) room =
      drop-drop record_length (at + record_length * i) room ∙ ap (λ (j : ℕ). drop j room) k in
      let t : TradesFit s (n - (i + 1) + 1) = rw m₁ at r.fits in
      rw w (record {
        could = r.could;
        places = omega arith;
        fits = fits_after s (n - (i + 1)) (get_or room (at + record_length * i + 5) 0) (get_or room (at + record_length * i + 4) 0) t d.price_small d.lots_some d.lots_small;
        banded = r.banded ∙ sym (band-kept s (get_or room (at + record_length * i + 5) 0) (get_or room (at + record_length * i + 4) 0));
        rest = r.rest ∙ rw (m, read_at_lem room (at + record_length * i) 5, read_at_lem room (at + record_length * i) 4, q);
      })

pub recall_all : (band : Band) (room : List ℕ) (at n i : ℕ) (s₀ s : Session) → Recalling band room at n s₀ s i → n ≤ i → s ≡ with_trades s₀ (fills_at n (drop at room))
unfolding fills_at with_trades
recall_all band room at n i s₀ s r h =
    let z : n - i ≡ 0 = omega arith in
    sym (r.rest ∙ rw z)

-- ---- the fills that were reported

abbrev fill_report : ℕ → Side → ℕ → Order → Report
fill_report time side number f = report_at time (Trade (deal_of side number f))

-- the record of a fill holds its lots and its price, whichever side came in
module _ (time number : ℕ) (f : Order) (l : List ℕ) where
  reads_fill : (side : Side) → fill_at (record_of (fill_report time side number f) ++ l) ≡ record { number = 0; price = f.price; lots = f.lots }
  unfolding record_of
  reads_fill Buy = refl
  reads_fill Sell = refl

  skips_fill : (side : Side) → drop record_length (record_of (fill_report time side number f) ++ l) ≡ l
  unfolding record_of
  skips_fill Buy = refl
  skips_fill Sell = refl

module _ (time : ℕ) (side : Side) (number : ℕ) (r : List ℕ) where
  -- remembered from their records, the fills change the session as they do by themselves
  pub recalls : (s : Session) (fs : List Order) → with_trades s (fills_at (length fs) (records_of (trade_reports time side number fs) ++ r)) ≡ with_trades s fs
  unfolding with_trades fills_at trade_reports records_of
  recalls s [] = refl
  recalls s (f ∷ fs) =
      let l : List ℕ = records_of (trade_reports time side number fs) ++ r in
      ap (λ (k : List ℕ). with_trades (with_trade s (fill_at k).price (fill_at k).lots) (fills_at (length fs) (drop record_length k)))
      (append_assoc (record_of (fill_report time side number f)) (records_of (trade_reports time side number fs)) r)
      ∙ ((λ i. with_trades (with_trade s (reads_fill time number f l side i).price (reads_fill time number f l side i).lots) (fills_at (length fs) (skips_fill time number f l side i)))
      ∙ recalls (with_trade s f.price f.lots) fs)

  -- a trade read from its record is one that the session can take if the fill is
  pub deals_each : (fs : List Order) → Each Deals fs → (k : ℕ) → k < length fs → Deals (fill_at (drop (record_length * k) (records_of (trade_reports time side number fs) ++ r)))
  unfolding trade_reports records_of
  deals_each [] e k h = absurd (omega arith)
  deals_each (f ∷ fs) e zero h =
      rw (append_assoc (record_of (fill_report time side number f)) (records_of (trade_reports time side number fs)) r, reads_fill time number f (records_of (trade_reports time side number fs) ++ r) side)
      (let d = e.0 in record { price_small = d.price_small; lots_some = d.lots_some; lots_small = d.lots_small })
  deals_each (f ∷ fs) e (suc k) h =
      let l : List ℕ = records_of (trade_reports time side number fs) ++ r in
      let m : record_length * suc k ≡ record_length + record_length * k = omega arith in
      let d : drop (record_length + record_length * k) (record_of (fill_report time side number f) ++ l) ≡ drop (record_length * k) l =
      sym (drop-drop (record_length * k) record_length (record_of (fill_report time side number f) ++ l)) ∙ ap (λ (x : List ℕ). drop (record_length * k) x) (skips_fill time number f l side) in
      rw (append_assoc (record_of (fill_report time side number f)) (records_of (trade_reports time side number fs)) r, m, d) (deals_each fs e.1 k (omega arith))
