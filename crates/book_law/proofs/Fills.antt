-- The fills of a sweep: they come best first, at resting prices, within the limit and in range; those of a market order are within the mark
-- of the first. And what parts of an order keep, fills and rest keep.
use Prim.Native.Nat.{ℕ, ◌-◌, ◌≤◌, ◌<◌}
use native.Mathlib.Omega.{arith}
use borrow.Author.Tests.{eqb-false, leb-true}
use mathlib.Core.Path.{◌≡◌, refl}
use mathlib.Core.Bool.{true, false}
use mathlib.Core.List.{List, [], ◌∷◌}
use lib.Dec.{eqb}
use Rattle.terms.specs.declared.Side.{Side}
use Rattle.terms.specs.declared.Side.TheVariants.{Buy, Sell}
use Rattle.terms.specs.declared.Kind.TheVariants.{Limit, Market}
use Rattle.terms.specs.declared.Order.{Order}
use Rattle.terms.proofs.Logic.{cases, both, make}
use Rattle.rules_law.specs.declared.Range.{Range}
use Rattle.rules_law.specs.Reference.{in_range}
use Rattle.rules_law.specs.Mark.{beyond_mark}
use Rattle.book_law.specs.Priority.{ahead, head_behind, sorted}
use Rattle.book_law.specs.Matching.{Taker, taker, Swept, fits_limit, fits, beyond, first_after, part, sweep, own_last_or}
use Rattle.book_law.specs.Over.{Each, EachPrice}
use Rattle.book_law.proofs.Over.{each_map}
use Rattle.book_law.proofs.Sweep.{sweep_by}
use Rattle.book_law.proofs.Mark.{near_next, near_mark, first_of, first_stays}

-- ---- what the fills are: no order trades before those ahead of it have traded whole

-- what becomes of the counter orders: none trades; or the first trades in part, and no other; or the first trades whole, and others follow
pub data Taken : List Order → List Order → List Order → Type 0 where
  none : (os : List Order) → Taken [] os os
  cut : (o : Order) (os : List Order) (lots : ℕ) → 1 ≤ lots → lots < o.lots → Taken (part o lots ∷ []) (part o (o.lots - lots) ∷ os) (o ∷ os)
  whole : (o : Order) (fills rest os : List Order) → Taken fills rest os → Taken (o ∷ fills) rest (o ∷ os)

pub sweep_takes : (q : Taker) (first lots : ℕ) (os : List Order) → Taken (sweep q first lots os).fills (sweep q first lots os).rest os
sweep_takes q =
    sweep_by q (λ first lots os w. Taken w.fills w.rest os)
    (record {
      stops = λ first lots os out s. none os;
      cuts = λ first lots o os m some l. cut o os lots some l;
      takes = λ first lots o os w m some l k. whole o w.fills w.rest os k;
    })

-- f has the number and the price of the resting order o, and at most its lots
pub record PartOf (f o : Order) : Type 0 where
  pub number : f.number ≡ o.number
  pub price : f.price ≡ o.price
  pub lots : f.lots ≤ o.lots

part_of : (o : Order) (k : ℕ) → k ≤ o.lots → PartOf (part o k) o
part_of o k h = record { number = refl; price = refl; lots = h }

-- the first fill is a part of the first order, the second of the second, ..
abbrev pub PartsOf : List Order → List Order → Type 0
PartsOf [] os = Unit {0}
PartsOf (f ∷ fs) [] = ⊥
PartsOf (f ∷ fs) (o ∷ os) = PartOf f o × PartsOf fs os

taken_parts : (fills rest os : List Order) → Taken fills rest os → PartsOf fills os
taken_parts fills rest os (none os') = tt
taken_parts fills rest os (cut o os' k h l) = (part_of o k (omega arith), tt)
taken_parts fills rest os (whole o fs rest' os' t) = (part_of o o.lots (omega arith), taken_parts fs rest' os' t)

pub fills_are_parts : (q : Taker) (first lots : ℕ) (os : List Order) → PartsOf (sweep q first lots os).fills os
fills_are_parts q first lots os = taken_parts _ _ os (sweep_takes q first lots os)

-- every fill, and every order that rests afterwards, has the property
pub record EachSwept (P : Order → Type 0) (w : Swept) : Type 0 where
  pub fills : Each P w.fills
  pub rest : Each P w.rest

pub each_swept : (P : Order → Type 0) → ((o : Order) (k : ℕ) → 1 ≤ k → k ≤ o.lots → P o → P (part o k)) →
    (q : Taker) (first lots : ℕ) (os : List Order) → Each P os → EachSwept P (sweep q first lots os)
each_swept P parts q =
    sweep_by q (λ first lots os w. Each P os → EachSwept P w)
    (record {
      stops = λ first lots os out s h. record { fills = tt; rest = h };
      cuts = λ first lots o os m some l h. record {
        fills = (parts o lots some (omega arith) h.0, tt);
        rest = (parts o (o.lots - lots) (omega arith) (omega arith) h.0, h.1);
      };
      takes = λ first lots o os w m some l k h. let v = k h.1 in record { fills = (h.0, v.fills); rest = v.rest };
    })

-- ---- fills stand best first, and so does what is left of the counter side

pub record Sorted (s : Side) (w : Swept) : Type 0 where
  pub fills : sorted s w.fills ≡ true
  pub rest : sorted s w.rest ≡ true

-- an order's priority does not depend on its lots, nor on the lots of those behind it
head_same : (s : Side) (f o : Order) (os : List Order) → PartOf f o → head_behind s o os ≡ true → head_behind s f os ≡ true
unfolding head_behind ahead
head_same s f o [] p e = refl
head_same s f o (y ∷ ys) p e = rw (p.number, p.price) e

head_parts : (s : Side) (o : Order) (fs os : List Order) → PartsOf fs os → head_behind s o os ≡ true → head_behind s o fs ≡ true
unfolding head_behind ahead
head_parts s o [] os p e = refl
head_parts s o (f ∷ fs) [] p e = absurd p
head_parts s o (f ∷ fs) (y ∷ ys) p e = rw (p.0.number, p.0.price) e

pub sorted_parts : (s : Side) (fs os : List Order) → PartsOf fs os → sorted s os ≡ true → sorted s fs ≡ true
unfolding sorted
sorted_parts s [] os p e = refl
sorted_parts s (f ∷ fs) [] p e = absurd p
sorted_parts s (f ∷ fs) (o ∷ os) p e =
    let c = both e in
    make (head_same s f o fs p.0 (head_parts s o fs os p.1 c.0)) (sorted_parts s fs os p.1 c.1)

sorted_rest : (s : Side) (q : Taker) (first lots : ℕ) (os : List Order) → sorted s os ≡ true → sorted s (sweep q first lots os).rest ≡ true
unfolding sorted
sorted_rest s q =
    sweep_by q (λ first lots os w. sorted s os ≡ true → sorted s w.rest ≡ true)
    (record {
      stops = λ first lots os out s h. h;
      cuts = λ first lots o os m some l h. let c = both h in
          make (head_same s (part o (o.lots - lots)) o os (part_of o (o.lots - lots) (omega arith)) c.0) c.1;
      takes = λ first lots o os w m some l k h. k (both h).1;
    })

pub sweep-sorted : (s : Side) (q : Taker) (first lots : ℕ) (os : List Order) → sorted s os ≡ true → Sorted s (sweep q first lots os)
sweep-sorted s q first lots os h =
    record {
      fills = sorted_parts s (sweep q first lots os).fills os (fills_are_parts q first lots os) h;
      rest = sorted_rest s q first lots os h;
    }

-- ---- the prices of the fills

-- a price at which an order may trade: it fits the limit and is in range
abbrev pub Dealable : Taker → ℕ → Type 0
Dealable q p = (fits q.side q.kind p ≡ true) × (in_range q.range p ≡ true)

pub fills_dealable : (q : Taker) (first lots : ℕ) (os : List Order) → EachPrice (Dealable q) (sweep q first lots os).fills
fills_dealable q =
    sweep_by q (λ first lots os w. EachPrice (Dealable q) w.fills)
    (record {
      stops = λ first lots os out s. tt;
      cuts = λ first lots o os m some l. ((m.fitting, m.ranged), tt);
      takes = λ first lots o os w m some l k. ((m.fitting, m.ranged), k);
    })

-- "the best counter order fits the limit": a buy pays at most its limit, a sell gets at least its own
abbrev pub WithinLimit : Side → ℕ → ℕ → Type 0
WithinLimit Buy limit p = p ≤ limit
WithinLimit Sell limit p = limit ≤ p

fits-within : (side : Side) (limit p : ℕ) → fits_limit side limit p ≡ true → WithinLimit side limit p
fits-within Buy limit p e = leb-true p limit e
fits-within Sell limit p e = leb-true limit p e

pub limit-kept : (side : Side) (limit : ℕ) (range : Range) (lots : ℕ) (os : List Order) →
    EachPrice (WithinLimit side limit) (sweep (taker side (Limit limit) range) 0 lots os).fills
limit-kept side limit range lots os =
    let q : Taker = taker side (Limit limit) range in
    each_map (λ o. Dealable q o.price) (λ o. WithinLimit side limit o.price) (λ o e. fits-within side limit o.price e.0)
    (sweep q 0 lots os).fills (fills_dealable q 0 lots os)

-- ---- a market order's mark

-- each fill is within the mark of the first trade
abbrev pub Near : Taker → ℕ → List Order → Type 0
Near q first fs = EachPrice (λ p. beyond q.side q.kind (first_of first fs) p ≡ false) fs

-- all prices are positive, so that a first trade's price is never taken for 0, which means no trade yet
abbrev pub Positive : List Order → Type 0
Positive os = EachPrice (λ p. 1 ≤ p) os

first_positive : (first p : ℕ) → 1 ≤ p → 1 ≤ first_after first p
first_positive first p h =
    cases (eqb first 0) (λ z. rw z h) (λ z. rw z (let y : (first ≡ 0 → ⊥) = eqb-false first 0 z in omega arith))

pub fills_near : (q : Taker) (first lots : ℕ) (os : List Order) → Positive os → Near q first (sweep q first lots os).fills
unfolding first_of
fills_near q =
    sweep_by q (λ first lots os w. Positive os → Near q first w.fills)
    (record {
      stops = λ first lots os out s h. tt;
      cuts = λ first lots o os m some l h. (near_next q.side q.kind first o.price m.near, tt);
      takes = λ first lots o os w m some l k h. (
        rw (first_stays (first_after first o.price) w.fills (first_positive first o.price h.0))
            (near_next q.side q.kind first o.price m.near),
        k h.1,
      );
    })

-- the same in terms of the fills alone: each is within the mark of the first
abbrev pub WithinFirst : Side → List Order → Type 0
WithinFirst side [] = Unit {0}
WithinFirst side (f ∷ fs) = EachPrice (λ p. beyond_mark side f.price p ≡ false) (f ∷ fs)

near_first : (side : Side) (range : Range) (fs : List Order) → Positive fs → Near (taker side Market range) 0 fs → WithinFirst side fs
unfolding first_of
near_first side range [] p n = tt
near_first side range (f ∷ fs) p n =
    each_map (λ o. beyond side Market (first_of f.price fs) o.price ≡ false) (λ o. beyond_mark side f.price o.price ≡ false)
    (λ o e. near_mark side f.price o.price p.0 (rw (first_stays f.price fs p.0) at e)) (f ∷ fs) n

pub market_within : (side : Side) (range : Range) (lots : ℕ) (os : List Order) → Positive os →
    WithinFirst side (sweep (taker side Market range) 0 lots os).fills
market_within side range lots os h =
    let q : Taker = taker side Market range in
    near_first side range (sweep q 0 lots os).fills (each_swept (λ o. 1 ≤ o.price) (λ o k l m e. e) q 0 lots os h).fills (fills_near q 0 lots os h)

-- the last fill is within the mark, even where prices may be 0; `last` stands for it where there is no fill
abbrev pub LastNear : Taker → ℕ → ℕ → List Order → Type 0
LastNear q first last fs = beyond q.side q.kind (first_of first fs) (own_last_or last fs) ≡ false

pub last_near : (q : Taker) (first lots : ℕ) (os : List Order) (last : ℕ) → beyond q.side q.kind first last ≡ false →
    LastNear q first last (sweep q first lots os).fills
unfolding first_of own_last_or
last_near q =
    sweep_by q (λ first lots os w. (last : ℕ) → beyond q.side q.kind first last ≡ false → LastNear q first last w.fills)
    (record {
      stops = λ first lots os out s last h. h;
      cuts = λ first lots o os m some l last h. near_next q.side q.kind first o.price m.near;
      takes = λ first lots o os w m some l k last h. k o.price (near_next q.side q.kind first o.price m.near);
    })
