-- A sweep makes and loses no lot: the lots that traded and those that are left are those that came in, and for each resting order the lots
-- that traded and those that rest are those that rested.
use Prim.Native.Nat.{ℕ, suc, ◌+◌, ◌-◌, ◌≤◌, ◌<◌}
use native.Mathlib.Omega.{arith}
use mathlib.Core.Path.{◌≡◌, ap}
use mathlib.Core.List.{List, ◌∷◌}
use lib.ListN.{length}
use Rattle.terms.specs.declared.Order.{Order}
use Rattle.book_law.specs.Matching.{Taker, Swept, cut_short, taken_whole, part, sweep}
use Rattle.book_law.specs.Over.{tally, mine, sum_of, lots_of}
use Rattle.book_law.proofs.Over.{mine-add}
use Rattle.book_law.proofs.Sweep.{sweep_by}

pub record Conserved (lots : ℕ) (os : List Order) (w : Swept) : Type 0 where
  pub incoming : sum_of w.fills + w.left ≡ lots
  pub resting : (id : ℕ) → lots_of id w.fills + lots_of id w.rest ≡ lots_of id os

cut_conserves : (lots : ℕ) (o : Order) (os : List Order) → lots < o.lots → Conserved lots (o ∷ os) (cut_short lots o os)
unfolding tally
cut_conserves lots o os h =
    record {
      incoming = omega arith;
      resting = λ id. let e : lots + (o.lots - lots) ≡ o.lots = omega arith in
          omega (arith, mine-add id o.number lots (o.lots - lots), ap (mine id o.number) e);
    }

take_conserves : (lots : ℕ) (o : Order) (os : List Order) (w : Swept) → o.lots ≤ lots → Conserved (lots - o.lots) os w →
    Conserved lots (o ∷ os) (taken_whole o w)
unfolding tally
take_conserves lots o os w h c = record { incoming = omega (arith, c.incoming); resting = λ id. omega (arith, c.resting id) }

pub sweep_conserves : (q : Taker) (first lots : ℕ) (os : List Order) → Conserved lots os (sweep q first lots os)
unfolding tally
sweep_conserves q =
    sweep_by q (λ first lots os w. Conserved lots os w)
    (record {
      stops = λ first lots os out s. record { incoming = omega arith; resting = λ id. omega arith };
      cuts = λ first lots o os m some l. cut_conserves lots o os l;
      takes = λ first lots o os w m some l c. take_conserves lots o os w l c;
    })

-- a sum over resting orders does not grow, if a part of an order never counts for more than the whole
pub tally-rest : (f : Order → ℕ) → ((o : Order) (k : ℕ) → f (part o k) ≤ f o) → (q : Taker) (first lots : ℕ) (os : List Order) →
    tally f (sweep q first lots os).rest ≤ tally f os
unfolding tally
tally-rest f part-less q =
    sweep_by q (λ first lots os w. tally f w.rest ≤ tally f os)
    (record {
      stops = λ first lots os out s. omega arith;
      cuts = λ first lots o os m some l. omega (arith, part-less o (o.lots - lots));
      takes = λ first lots o os w m some l k. omega (arith, k);
    })

-- ---- how many orders: the sweep takes from the front, and at most one order is both filled and resting

pub record Fewer (os : List Order) (w : Swept) : Type 0 where
  pub fills : length w.fills ≤ length os
  pub rest : length w.rest ≤ length os
  pub all : length os ≤ length w.fills + length w.rest
  pub once : length w.fills + length w.rest ≤ suc (length os)

pub sweep_fewer : (q : Taker) (first lots : ℕ) (os : List Order) → Fewer os (sweep q first lots os)
sweep_fewer q =
    sweep_by q (λ first lots os w. Fewer os w)
    (record {
      stops = λ first lots os out s. record { fills = omega arith; rest = omega arith; all = omega arith; once = omega arith };
      cuts = λ first lots o os m some l. record { fills = omega arith; rest = omega arith; all = omega arith; once = omega arith };
      takes = λ first lots o os w m some l k. record {
        fills = omega (arith, k.fills);
        rest = omega (arith, k.rest);
        all = omega (arith, k.all);
        once = omega (arith, k.once);
      };
    })
