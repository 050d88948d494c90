-- Where a sweep ends with lots left, the next counter order does not fit, or is out of range, or is in range and beyond the mark.
use Prim.Native.Nat.{ℕ, ◌≤◌, ◌<◌}
use native.Mathlib.Omega.{arith}
use borrow.Author.Tests.{not-true, leb-false}
use mathlib.Core.Path.{◌≡◌, refl}
use mathlib.Core.Bool.{Bool, true, false, ◌||◌, not, false≢true}
use mathlib.Core.List.{List, [], ◌∷◌}
use lib.Dec.{eqb}
use Rattle.terms.specs.declared.Side.{Side}
use Rattle.terms.specs.declared.Side.TheVariants.{Buy, Sell}
use Rattle.terms.specs.declared.Kind.TheVariants.{Limit, Market}
use Rattle.terms.specs.declared.Order.{Order}
use Rattle.terms.proofs.Logic.{split}
use Rattle.rules_law.specs.declared.Range.{Range}
use Rattle.rules_law.specs.Mark.{beyond_mark}
use Rattle.book_law.specs.Matching.{Taker, taker, Swept, fits_limit, beyond, sweep}
use Rattle.book_law.specs.Over.{FirstPrice}
use Rattle.book_law.proofs.Over.{first-map}
use Rattle.book_law.proofs.Sweep.{barred, Forbidden, SomePrice, Stop, sweep_by}
use Rattle.book_law.proofs.Mark.{first_of, first_stays}
use Rattle.book_law.proofs.Fills.{Positive, each_swept}

-- the sweep stopped for one of the reasons in `Stop`
abbrev pub Ended : Taker → ℕ → Swept → Type 0
Ended q first w = Stop q (first_of first w.fills) w.left w.rest w.out

pub sweep-stops : (q : Taker) (first lots : ℕ) (os : List Order) → Ended q first (sweep q first lots os)
unfolding first_of
sweep-stops q =
    sweep_by q (λ first lots os w. Ended q first w)
    (record {
      stops = λ first lots os out s. s;
      cuts = λ first lots o os m some l. record {
        inside = λ e n. absurd (omega arith);
        outside = λ e. absurd (false≢true e);
        range-first = λ n. absurd (omega arith);
      };
      takes = λ first lots o os w m some l k. k;
    })

-- if lots are left and the range did not stop the sweep, the next counter price has the property
abbrev pub Next : (ℕ → Type 0) → Swept → Type 0
Next P w = w.out ≡ false → 1 ≤ w.left → FirstPrice P w.rest

or_never : (a : Bool) → a || false ≡ true → a ≡ true
or_never true h = refl
or_never false h = h

-- a next counter price that fits but is out of range ends the sweep as out of range, whatever the mark
pub range-before-mark : (q : Taker) (lots : ℕ) (os : List Order) → 1 ≤ (sweep q 0 lots os).left →
    FirstPrice (λ p. Forbidden q p → (sweep q 0 lots os).out ≡ true) (sweep q 0 lots os).rest
range-before-mark q lots os l = (sweep-stops q 0 lots os).range-first l

-- nothing else ends it so
pub out_of_range : (q : Taker) (lots : ℕ) (os : List Order) → (sweep q 0 lots os).out ≡ true → SomePrice (Forbidden q) (sweep q 0 lots os).rest
out_of_range q lots os e = ((sweep-stops q 0 lots os).outside e).1

-- a limit order stops at a price that does not fit,
pub limit-stops : (side : Side) (limit : ℕ) (range : Range) (first lots : ℕ) (os : List Order) →
    Next (λ p. fits_limit side limit p ≡ false) (sweep (taker side (Limit limit) range) first lots os)
limit-stops side limit range first lots os e l =
    let q : Taker = taker side (Limit limit) range in
    let w : Swept = sweep q first lots os in
    first-map (λ p. barred q (first_of first w.fills) p ≡ true) (λ p. fits_limit side limit p ≡ false)
    (λ p h. not-true _ (or_never (not (fits_limit side limit p)) h)) w.rest ((sweep-stops q first lots os).inside e l)

-- that is, one higher than a buy pays or lower than a sell takes
abbrev pub PastLimit : Side → ℕ → ℕ → Type 0
PastLimit Buy limit p = limit < p
PastLimit Sell limit p = p < limit

unfit_past : (side : Side) (limit p : ℕ) → fits_limit side limit p ≡ false → PastLimit side limit p
unfit_past Buy limit p e = leb-false p limit e
unfit_past Sell limit p e = leb-false limit p e

pub limit-passed : (side : Side) (limit : ℕ) (range : Range) (first lots : ℕ) (os : List Order) →
    Next (PastLimit side limit) (sweep (taker side (Limit limit) range) first lots os)
limit-passed side limit range first lots os e l =
    let w : Swept = sweep (taker side (Limit limit) range) first lots os in
    first-map (λ p. fits_limit side limit p ≡ false) (PastLimit side limit) (unfit_past side limit) w.rest
    (limit-stops side limit range first lots os e l)

-- a market order stops at a price beyond the mark of its first trade,
abbrev pub Beyond : Side → ℕ → Swept → ℕ → Type 0
Beyond side first w p = beyond side Market (first_of first w.fills) p ≡ true

pub market_stops : (side : Side) (range : Range) (first lots : ℕ) (os : List Order) →
    Next (Beyond side first (sweep (taker side Market range) first lots os)) (sweep (taker side Market range) first lots os)
market_stops side range first lots os e l = (sweep-stops (taker side Market range) first lots os).inside e l

-- and that trade is its first fill
abbrev pub BeyondFirst : Side → List Order → ℕ → Type 0
BeyondFirst side [] p = ⊥
BeyondFirst side (f ∷ fs) p = beyond_mark side f.price p ≡ true

beyond-first : (side : Side) (fs : List Order) (p : ℕ) → Positive fs → beyond side Market (first_of 0 fs) p ≡ true → BeyondFirst side fs p
unfolding first_of
beyond-first side [] p h e = absurd (false≢true e)
beyond-first side (f ∷ fs) p h e =
    let m : beyond side Market f.price p ≡ true = rw (first_stays f.price fs h.0) at e in
    (split (not (eqb f.price 0)) (beyond_mark side f.price p) m).1

pub market_beyond : (side : Side) (range : Range) (lots : ℕ) (os : List Order) → Positive os →
    Next (BeyondFirst side (sweep (taker side Market range) 0 lots os).fills) (sweep (taker side Market range) 0 lots os)
market_beyond side range lots os h e l =
    let q : Taker = taker side Market range in
    let w : Swept = sweep q 0 lots os in
    first-map (Beyond side 0 w) (BeyondFirst side w.fills)
    (λ p b. beyond-first side w.fills p (each_swept (λ o. 1 ≤ o.price) (λ o k i j x. x) q 0 lots os h).fills b) w.rest
    (market_stops side range 0 lots os e l)
