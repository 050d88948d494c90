-- One induction serves every law of the sweep: it stops, or takes a part of the first order and ends, or takes the first order whole and
-- goes on. Only here does a proof go through the tests of `sweep`.
use Prim.Native.Nat.{ℕ, ◌-◌, ◌≤◌, ◌<◌}
use native.Mathlib.Omega.{arith}
use borrow.Author.Tests.{ltb-true, ltb-false, eqb-true, eqb-false, not-true, not-false}
use mathlib.Core.Path.{◌≡◌, refl}
use mathlib.Core.Bool.{Bool, true, false, ◌||◌, not, true≢false, false≢true}
use mathlib.Core.List.{List, [], ◌∷◌}
use lib.Dec.{ltb, eqb}
use Rattle.terms.specs.declared.Order.{Order}
use Rattle.terms.proofs.Logic.{by, no_both}
use Rattle.rules_law.specs.Reference.{in_range}
use Rattle.book_law.specs.Matching.{Taker, Swept, stopped, cut_short, taken_whole, fits, beyond, first_after, sweep}
use Rattle.book_law.specs.Over.{FirstPrice}

-- a counter price at which the incoming order does not trade, in range or not: it does not fit, or is beyond the mark
abbrev pub barred : Taker → ℕ → ℕ → Bool
barred q first price = not (fits q.side q.kind price) || beyond q.side q.kind first price

-- a counter price that fits, but is out of range
abbrev pub Forbidden : Taker → ℕ → Type 0
Forbidden q p = (fits q.side q.kind p ≡ true) × (in_range q.range p ≡ false)

-- there is a first order, and its price has the property
abbrev pub SomePrice : (ℕ → Type 0) → List Order → Type 0
SomePrice P [] = ⊥
SomePrice P (o ∷ os) = P o.price

-- why a sweep ends with these lots left and these counter orders ahead: no lots, no order, a barred price, or one that fits and is out of
-- range; the range is looked at before the mark
pub record Stop (q : Taker) (first lots : ℕ) (os : List Order) (out : Bool) : Type 0 where
  pub inside : out ≡ false → 1 ≤ lots → FirstPrice (λ p. barred q first p ≡ true) os
  pub outside : out ≡ true → (1 ≤ lots) × SomePrice (Forbidden q) os
  pub range-first : 1 ≤ lots → FirstPrice (λ p. Forbidden q p → out ≡ true) os

-- what is known of a price at which the order trades
pub record Meets (q : Taker) (first price : ℕ) : Type 0 where
  pub fitting : fits q.side q.kind price ≡ true
  pub ranged : in_range q.range price ≡ true
  pub near : beyond q.side q.kind first price ≡ false

-- what has to be shown to prove P of every sweep; P first lots os w speaks of a sweep of `lots` over os that comes to w
pub record Laws (q : Taker) (P : ℕ → ℕ → List Order → Swept → Type 0) : Type 0 where
  pub stops : (first lots : ℕ) (os : List Order) (out : Bool) → Stop q first lots os out → P first lots os (stopped out lots os)
  pub cuts : (first lots : ℕ) (o : Order) (os : List Order) → Meets q first o.price → 1 ≤ lots → lots < o.lots →
      P first lots (o ∷ os) (cut_short lots o os)
  pub takes : (first lots : ℕ) (o : Order) (os : List Order) (w : Swept) → Meets q first o.price → 1 ≤ lots → o.lots ≤ lots →
      P (first_after first o.price) (lots - o.lots) os w → P first lots (o ∷ os) (taken_whole o w)

pub sweep_by : (q : Taker) (P : ℕ → ℕ → List Order → Swept → Type 0) → Laws q P → (first lots : ℕ) (os : List Order) →
    P first lots os (sweep q first lots os)
unfolding sweep
sweep_by q P k first lots [] =
    k.stops first lots [] false (record { inside = λ e l. tt; outside = λ e. absurd (false≢true e); range-first = λ l. tt })
sweep_by q P k first lots (o ∷ os) =
    let Q : Swept → Type 0 = P first lots (o ∷ os) in
    let halt = k.stops first lots (o ∷ os) in
    by Q (eqb lots 0) _ _
    (λ z. let y : lots ≡ 0 = eqb-true lots 0 z in halt false (record {
      inside = λ e l. absurd (omega arith);
      outside = λ e. absurd (false≢true e);
      range-first = λ l. absurd (omega arith);
    }))
    (λ z. let some : 1 ≤ lots = (let y : (lots ≡ 0 → ⊥) = eqb-false lots 0 z in omega arith) in
    by Q (not (fits q.side q.kind o.price)) _ _
    (λ u. halt false (record {
      inside = λ e l. rw u refl;
      outside = λ e. absurd (false≢true e);
      range-first = λ l f. no_both _ f.0 (not-true _ u);
    }))
    (λ u. by Q (not (in_range q.range o.price)) _ _
    (λ r. halt true (record {
      inside = λ e. absurd (true≢false e);
      outside = λ e. (some, (not-false _ u, not-true _ r));
      range-first = λ l f. refl;
    }))
    (λ r. by Q (beyond q.side q.kind first o.price) _ _
    (λ b. halt false (record {
      inside = λ e l. rw (u, b) refl;
      outside = λ e. absurd (false≢true e);
      range-first = λ l f. no_both _ (not-false _ r) f.1;
    }))
    (λ b. let meets : Meets q first o.price = record { fitting = not-false _ u; ranged = not-false _ r; near = b } in
    by Q (ltb lots o.lots) _ _
    (λ p. k.cuts first lots o os meets some (ltb-true lots o.lots p))
    (λ p. k.takes first lots o os _ meets some (ltb-false lots o.lots p) (sweep_by q P k (first_after first o.price) (lots - o.lots) os))))))
