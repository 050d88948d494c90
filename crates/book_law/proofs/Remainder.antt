-- What the reports of an incoming order say, and where its remainder goes: every lot of it, and of each order that it meets, is reported as
-- traded or cancelled, or rests. Nothing is assumed, not even a sound book.
use Prim.Native.Nat.{ℕ, ◌+◌, ◌≤◌}
use native.Mathlib.Omega.{arith}
use borrow.Author.Tests.{eqb-true}
use mathlib.Core.Path.{◌≡◌, refl, ap}
use mathlib.Core.List.{List, [], ◌∷◌, ◌++◌, map}
use lib.Dec.{eqb}
use lib.ListN.{length}
use Rattle.std.specs.Option.{option_map_or}
use Rattle.terms.specs.declared.Side.{Side}
use Rattle.terms.specs.declared.Side.TheVariants.{Buy, Sell}
use Rattle.terms.specs.declared.Kind.{Kind}
use Rattle.terms.specs.declared.Kind.TheVariants.{Limit, Market}
use Rattle.terms.specs.declared.Life.{Life}
use Rattle.terms.specs.declared.Life.TheVariants.{AllDay, Ioc}
use Rattle.terms.specs.declared.Order.{Order}
use Rattle.terms.specs.declared.Band.{Band}
use Rattle.terms.specs.declared.Deal.{Deal}
use Rattle.terms.specs.declared.Why.{Why}
use Rattle.terms.specs.declared.Report.{Report}
use Rattle.terms.specs.declared.Said.{Said}
use Rattle.terms.proofs.Logic.{by}
use Rattle.rules_law.specs.Slabs.{in_band}
use Rattle.book_law.specs.declared.Fate.{Fate}
use Rattle.book_law.specs.declared.Fate.TheVariants.{Done, Rests, Turns, Ends}
use Rattle.book_law.specs.Matching.{Taker, Swept, sweep, deal_of, trade_reports, own_last_or, fate_of_left, fate_of, settled, fate_reports}
use Rattle.book_law.specs.Over.{tally, mine, sum_of, lots_of}
use Rattle.book_law.specs.Priority.{other_side}
use Rattle.book_law.specs.View.{named}
use Rattle.book_law.specs.Tells.{tells}
use Rattle.book_law.specs.Told.{total, traded_in, cancelled_in, traded, cancelled}
use Rattle.book_law.proofs.Over.{mine-add, mine-zero, lots-insert}
use Rattle.book_law.proofs.Conserve.{Conserved, sweep_conserves}

pub total-append : (f : Said → ℕ) (xs ys : List Report) → total f (xs ++ ys) ≡ total f xs + total f ys
unfolding total
total-append f [] ys = omega arith
total-append f (x ∷ xs) ys = omega (arith, total-append f xs ys)

-- ---- its trades

-- the incoming order trades on its own side and the counter order on the other, at the resting price
pub record DealTold (side : Side) (number : ℕ) (f : Order) (d : Deal) : Type 0 where
  pub mine : named side d.buy d.sell ≡ number
  pub theirs : named (other_side side) d.buy d.sell ≡ f.number
  pub lots : d.lots ≡ f.lots
  pub price : d.price ≡ f.price

pub deal-told : (side : Side) (number : ℕ) (f : Order) → DealTold side number f (deal_of side number f)
deal-told Buy number f = record { mine = refl; theirs = refl; lots = refl; price = refl }
deal-told Sell number f = record { mine = refl; theirs = refl; lots = refl; price = refl }

-- the reports say that the incoming order traded the lots of all fills, and each counter order those of its own fills
pub trades-traded : (id time : ℕ) (side : Side) (number : ℕ) (fs : List Order) →
    traded id (trade_reports time side number fs) ≡ mine id number (sum_of fs) + lots_of id fs
unfolding total trade_reports tally
trades-traded id time side number [] = omega (arith, mine-zero id number)
trades-traded id time Buy number (f ∷ fs) = omega (arith, trades-traded id time Buy number fs, mine-add id number f.lots (sum_of fs))
trades-traded id time Sell number (f ∷ fs) = omega (arith, trades-traded id time Sell number fs, mine-add id number f.lots (sum_of fs))

pub trades-cancelled : (id time : ℕ) (side : Side) (number : ℕ) (fs : List Order) → cancelled id (trade_reports time side number fs) ≡ 0
unfolding total trade_reports
trades-cancelled id time side number [] = refl
trades-cancelled id time side number (f ∷ fs) = omega (arith, trades-cancelled id time side number fs)

-- the deals are reported in the order of the fills, best first
abbrev deal_in : Said → List Deal
deal_in x = option_map_or (λ deal. deal ∷ []) (tells x).deal []

unfoldable pub deals_told : List Report → List Deal
deals_told [] = []
deals_told (r ∷ rs) = deal_in r.said ++ deals_told rs

pub trades_in_order : (time : ℕ) (side : Side) (number : ℕ) (fs : List Order) →
    deals_told (trade_reports time side number fs) ≡ map (deal_of side number) fs
unfolding deals_told trade_reports
trades_in_order time side number [] = refl
trades_in_order time side number (f ∷ fs) = ap (λ (l : List Deal). deal_of side number f ∷ l) (trades_in_order time side number fs)

pub length-trades : (time : ℕ) (side : Side) (number : ℕ) (fs : List Order) → length (trade_reports time side number fs) ≡ length fs
unfolding trade_reports
length-trades time side number [] = refl
length-trades time side number (f ∷ fs) = omega (arith, length-trades time side number fs)

-- ---- its remainder

-- the lots left are reported as cancelled, or rest; no trade is reported, and there is at most one report
pub record FateKept (side : Side) (number left time : ℕ) (os : List Order) (fate : Fate) : Type 0 where
  pub kept : (id : ℕ) →
      cancelled id (fate_reports time number left fate) + lots_of id (settled side number left fate os) ≡ mine id number left + lots_of id os
  pub untraded : (id : ℕ) → traded id (fate_reports time number left fate) ≡ 0
  pub one : length (fate_reports time number left fate) ≤ 1

module _ (side : Side) (number left time : ℕ) (os : List Order) where
  done_placed : left ≡ 0 → FateKept side number left time os Done
  unfolding total
  done_placed e = record { kept = λ id. rw e (omega (arith, mine-zero id number)); untraded = λ id. refl; one = omega arith }

  lots-at : (p id : ℕ) → lots_of id (settled side number left (Rests p) os) ≡ mine id number left + lots_of id os
  lots-at p id = lots-insert id side (record { number = number; price = p; lots = left }) os

  rests-placed : (p : ℕ) → FateKept side number left time os (Rests p)
  unfolding total
  rests-placed p = record { kept = λ id. omega (arith, lots-at p id); untraded = λ id. refl; one = omega arith }

  turns_placed : (p : ℕ) → FateKept side number left time os (Turns p)
  unfolding total
  turns_placed p = record { kept = λ id. omega (arith, lots-at p id); untraded = λ id. refl; one = omega arith }

  ends-placed : (why : Why) → FateKept side number left time os (Ends why)
  unfolding total
  ends-placed why = record { kept = λ id. omega arith; untraded = λ id. refl; one = omega arith }

  left-placed : (life : Life) (kind : Kind) (b : Band) (p : ℕ) → FateKept side number left time os (fate_of_left life kind b p)
  left-placed Ioc kind b p = ends-placed _
  left-placed AllDay (Limit l) b p = rests-placed l
  left-placed AllDay Market b p = by (FateKept side number left time os) (in_band b p) _ _ (λ e. turns_placed p) (λ e. ends-placed _)

pub fate_placed : (side : Side) (number time : ℕ) (os : List Order) (life : Life) (kind : Kind) (b : Band) (last : ℕ) (w : Swept) →
    FateKept side number w.left time os (fate_of life kind b last w)
unfolding fate_of
fate_placed side number time os life kind b last w =
    let P : Fate → Type 0 = FateKept side number w.left time os in
    by P (eqb w.left 0) _ _ (λ e. done_placed side number w.left time os (eqb-true _ _ e))
    (λ e. by P w.out _ _ (λ e. ends-placed side number w.left time os _)
    (λ e. left-placed side number w.left time os life kind b (own_last_or last w.fills)))

-- ---- trades and remainder together: for each order, what is reported and what rests afterwards is what rested before or came in

-- "trades, then convert or cancel"
abbrev pub entry_reports : ℕ → Side → ℕ → Swept → Fate → List Report
entry_reports time side number w fate = trade_reports time side number w.fills ++ fate_reports time number w.left fate

-- `own` and `across` are the two sides before the order came in; w and fate are what its sweep and its remainder came to
abbrev pub Balanced : ℕ → ℕ → Side → ℕ → ℕ → List Order → List Order → Swept → Fate → Type 0
Balanced id time side number lots own across w fate =
    traded id (entry_reports time side number w fate)
    + cancelled id (entry_reports time side number w fate)
    + (lots_of id (settled side number w.left fate own) + lots_of id w.rest)
    ≡ mine id number lots + (lots_of id own + lots_of id across)

entry_balanced : (id time : ℕ) (side : Side) (number lots : ℕ) (own across : List Order) (w : Swept) (fate : Fate) → Conserved lots across w →
    FateKept side number w.left time own fate → Balanced id time side number lots own across w fate
entry_balanced id time side number lots own across w fate c f =
    let ts : List Report = trade_reports time side number w.fills in
    let fs : List Report = fate_reports time number w.left fate in
    omega (
      arith,
      total-append (traded_in id) ts fs,
      trades-traded id time side number w.fills,
      f.untraded id,
      total-append (cancelled_in id) ts fs,
      trades-cancelled id time side number w.fills,
      f.kept id,
      c.resting id,
      mine-add id number (sum_of w.fills) w.left,
      ap (mine id number) c.incoming,
    )

pub entered_balanced : (id time : ℕ) (q : Taker) (number lots : ℕ) (life : Life) (b : Band) (last : ℕ) (own across : List Order) →
    Balanced id time q.side number lots own across (sweep q 0 lots across) (fate_of life q.kind b last (sweep q 0 lots across))
entered_balanced id time q number lots life b last own across =
    let w : Swept = sweep q 0 lots across in
    entry_balanced id time q.side number lots own across w (fate_of life q.kind b last w) (sweep_conserves q 0 lots across)
    (fate_placed q.side number time own life q.kind b last w)
