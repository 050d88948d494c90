-- `sweep` by one test at each counter price: whether the incoming order trades there or not.
use Prim.Native.Nat.{ℕ, ◌-◌, ◌≤◌}
use borrow.Author.Tests.{eq-eqb}
use mathlib.Core.Path.{◌≡◌, refl}
use mathlib.Core.Bool.{Bool, true, false, cond, ◌&&◌, not, true≢false, false≢true}
use mathlib.Core.List.{List, [], ◌∷◌}
use lib.Dec.{eqb, ltb}
use Rattle.terms.specs.declared.Order.{Order}
use Rattle.terms.proofs.Logic.{cases}
use Rattle.rules_law.specs.Reference.{in_range, RangeFits}
use Rattle.rules_law.specs.Mark.{mark_most}
use Rattle.rules_law.proofs.Ranges.{in_range-small}
use Rattle.book_law.specs.Matching.{Taker, Swept, stopped, cut_short, taken_whole, fits, beyond, first_after, sweep}
use Rattle.matching_law.specs.code.Sweeps.{at_price_of}

-- `sweep` makes three tests in this order: the price fits, it is in range, it is beyond the mark
module _ (stop : Bool → Swept) (on : Swept) where
  stops : (f r b : Bool) → (f && r && not b) ≡ false → cond (not f) (stop false) (cond (not r) (stop true) (cond b (stop false) on)) ≡ stop (f && not r)
  stops false r b e = refl
  stops true false b e = refl
  stops true true true e = refl
  stops true true false e = absurd (true≢false e)

  goes_on : (f r b : Bool) → (f && r && not b) ≡ true → cond (not f) (stop false) (cond (not r) (stop true) (cond b (stop false) on)) ≡ on
  goes_on false r b e = absurd (false≢true e)
  goes_on true false b e = absurd (false≢true e)
  goes_on true true true e = absurd (false≢true e)
  goes_on true true false e = refl

middle : (f r b : Bool) → (f && r && not b) ≡ true → r ≡ true
middle false r b e = absurd (false≢true e)
middle true false b e = absurd (false≢true e)
middle true true b e = refl

-- with no lots left, a sweep ends
pub sweep-zero : (q : Taker) (first lots : ℕ) → lots ≡ 0 → (os : List Order) → sweep q first lots os ≡ stopped false lots os
unfolding sweep
sweep-zero q first lots e [] = refl
sweep-zero q first lots e (o ∷ os) = rw (eq-eqb lots 0 e)

module _ (q : Taker) (first lots : ℕ) (os : List Order) (o : Order) (xs : List Order) (e : os ≡ o ∷ xs) (z : eqb lots 0 ≡ false) where
  pub sweep-stops : (at_price_of q first o.price).trades ≡ false → sweep q first lots os ≡ stopped (at_price_of q first o.price).out lots os
  unfolding sweep
  sweep-stops p = rw (e, z) (stops (λ out. stopped out lots (o ∷ xs)) _ (fits q.side q.kind o.price) (in_range q.range o.price) (beyond q.side q.kind first o.price) p)

  module _ (p : (at_price_of q first o.price).trades ≡ true) where
    goes : sweep q first lots os ≡ cond (ltb lots o.lots) (cut_short lots o xs) (taken_whole o (sweep q (first_after first o.price) (lots - o.lots) xs))
    unfolding sweep
    goes = rw (e, z) (goes_on (λ out. stopped out lots (o ∷ xs)) _ (fits q.side q.kind o.price) (in_range q.range o.price) (beyond q.side q.kind first o.price) p)

    pub sweep-cuts : ltb lots o.lots ≡ true → sweep q first lots os ≡ cut_short lots o xs
    sweep-cuts h = rw (goes, h)

    pub sweep_takes : ltb lots o.lots ≡ false → sweep q first lots os ≡ taken_whole o (sweep q (first_after first o.price) (lots - o.lots) xs)
    sweep_takes h = rw (goes, h)

-- a first trade is at a price in range, so the products for its mark do not overflow
pub first_small : (q : Taker) (first price : ℕ) → RangeFits q.range → first ≤ mark_most → (at_price_of q first price).trades ≡ true → first_after first price ≤ mark_most
first_small q first price f h p =
    let s : price ≤ mark_most = in_range-small q.range price f (middle (fits q.side q.kind price) (in_range q.range price) (beyond q.side q.kind first price) p) in
    cases (eqb first 0) (λ e. rw e s) (λ e. rw e h)
