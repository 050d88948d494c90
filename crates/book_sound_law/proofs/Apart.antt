-- The best buy stays below the best sell: every price of one side stays short of every counter price, and what a sweep leaves lies
-- beyond the price at which its remainder rests. Each law holds for both sides.
use Prim.Native.Nat.{ℕ, ◌≤◌}
use native.Mathlib.Omega.{arith}
use borrow.Author.Tests.{leb-false, ltb-true, ltb-false, lt-ltb}
use mathlib.Core.Path.{◌≡◌, refl}
use mathlib.Core.Bool.{true, false}
use mathlib.Core.List.{List, [], ◌∷◌}
use Rattle.terms.specs.declared.Side.{Side}
use Rattle.terms.specs.declared.Side.TheVariants.{Buy, Sell}
use Rattle.terms.specs.declared.Kind.{Kind}
use Rattle.terms.specs.declared.Kind.TheVariants.{Limit, Market}
use Rattle.terms.specs.declared.Order.{Order}
use Rattle.rules_law.specs.declared.Range.{Range}
use Rattle.book_law.specs.Priority.{other_side, better, sorted}
use Rattle.book_law.specs.Matching.{Taker, taker, Swept, fits_limit, sweep, own_last_or}
use Rattle.book_law.specs.Over.{EachPrice, FirstPrice}
use Rattle.book_law.proofs.Over.{each_map, each_all, first-map}
use Rattle.book_law.proofs.Priority.{same_not, worse_all}
use Rattle.book_law.proofs.Mark.{near_short, none_yet, first_of}
use Rattle.book_law.proofs.Fills.{sweep-sorted, LastNear, last_near}
use Rattle.book_law.proofs.Stops.{Next, Beyond, limit-stops, market_stops}
use Rattle.book_sound_law.specs.Sound.{uncrossed, on_side}

-- p, a price of side s, does not reach the counter price q
abbrev pub ShortOf : Side → ℕ → ℕ → Type 0
ShortOf s p q = better (other_side s) p q ≡ true

-- every price of one side is short of every price of the other
abbrev pub Clear : Side → List Order → List Order → Type 0
Clear s own across = EachPrice (λ p. EachPrice (ShortOf s p) across) own

short_stays : (s : Side) (p q p' q' : ℕ) → ShortOf s p q → better s p' p ≡ false → better (other_side s) q' q ≡ false → ShortOf s p' q'
short_stays Buy p q p' q' e f g = lt-ltb p' q' (omega (arith, ltb-true p q e, ltb-false p p' f, ltb-false q' q g))
short_stays Sell p q p' q' e f g = lt-ltb q' p' (omega (arith, ltb-true q p e, ltb-false p' p f, ltb-false q q' g))

-- a price short of the best counter price is short of all of them
pub short-all : (s : Side) (p : ℕ) (os : List Order) → FirstPrice (ShortOf s p) os → sorted (other_side s) os ≡ true →
    EachPrice (ShortOf s p) os
short-all s p [] h e = tt
short-all s p (o ∷ os) h e =
    each_map (λ x. better (other_side s) x.price o.price ≡ false) (λ x. ShortOf s p x.price)
    (λ x f. short_stays s p o.price p x.price h (same_not s p p refl) f)
    (o ∷ os) (worse_all (other_side s) o.price o os (same_not (other_side s) o.price o.price refl) e)

-- ---- `Clear` follows from the test of the two best prices, and gives it back

-- the test itself, seen from side s: the best buy is below the best sell
abbrev pub Apart : Side → List Order → List Order → Type 0
Apart s own across = uncrossed (on_side s own across) (on_side (other_side s) own across) ≡ true

heads_short : (s : Side) (x : Order) (xs : List Order) (y : Order) (ys : List Order) → Apart s (x ∷ xs) (y ∷ ys) → ShortOf s x.price y.price
unfolding uncrossed
heads_short Buy x xs y ys e = e
heads_short Sell x xs y ys e = e

pub clear_in : (s : Side) (own across : List Order) → sorted s own ≡ true → sorted (other_side s) across ≡ true → Apart s own across → Clear s own across
clear_in s [] ys a b e = tt
clear_in s (x ∷ xs) [] a b e = each_all (λ o. Unit {0}) (λ o. tt) (x ∷ xs)
clear_in s (x ∷ xs) (y ∷ ys) a b e =
    let h : ShortOf s x.price y.price = heads_short s x xs y ys e in
    each_map (λ o. better s o.price x.price ≡ false) (λ o. EachPrice (ShortOf s o.price) (y ∷ ys))
    (λ o f. short-all s o.price (y ∷ ys)
    (short_stays s x.price y.price o.price y.price h f (same_not (other_side s) y.price y.price refl)) b)
    (x ∷ xs) (worse_all s x.price x xs (same_not s x.price x.price refl) a)

pub clear_out : (s : Side) (own across : List Order) → Clear s own across → Apart s own across
unfolding uncrossed
clear_out Buy [] ys c = refl
clear_out Buy (x ∷ xs) [] c = refl
clear_out Buy (x ∷ xs) (y ∷ ys) c = c.0.0
clear_out Sell [] [] c = refl
clear_out Sell [] (y ∷ ys) c = refl
clear_out Sell (x ∷ xs) [] c = refl
clear_out Sell (x ∷ xs) (y ∷ ys) c = c.0.0

-- ---- a remainder does not cross

-- the price at which a remainder rests: its limit, or its own last trade's price, or the price given for one that made no trade
abbrev pub rest_price : Kind → ℕ → List Order → ℕ
rest_price (Limit p) last fills = p
rest_price Market last fills = own_last_or last fills

unfit_short : (s : Side) (limit p : ℕ) → fits_limit s limit p ≡ false → ShortOf s limit p
unfit_short Buy limit p e = lt-ltb limit p (leb-false p limit e)
unfit_short Sell limit p e = lt-ltb p limit (leb-false limit p e)

-- the next counter price lies beyond that price
next-short : (side : Side) (kind : Kind) (range : Range) (last lots : ℕ) (os : List Order) →
    Next (ShortOf side (rest_price kind last (sweep (taker side kind range) 0 lots os).fills)) (sweep (taker side kind range) 0 lots os)
next-short side (Limit limit) range last lots os e l =
    first-map (λ p. fits_limit side limit p ≡ false) (ShortOf side limit) (λ p f. unfit_short side limit p f)
    (sweep (taker side (Limit limit) range) 0 lots os).rest (limit-stops side limit range 0 lots os e l)
next-short side Market range last lots os e l =
    let q : Taker = taker side Market range in
    let w : Swept = sweep q 0 lots os in
    let near : LastNear q 0 last w.fills = last_near q 0 lots os last (none_yet side Market last) in
    first-map (Beyond side 0 w) (ShortOf side (own_last_or last w.fills))
    (λ p f. near_short side (first_of 0 w.fills) (own_last_or last w.fills) p near f) w.rest (market_stops side range 0 lots os e l)

-- the price of a remainder, kept at its limit or converted, is short of every counter order that is left
abbrev pub ShortOfRest : Side → Kind → ℕ → Swept → Type 0
ShortOfRest side kind last w = EachPrice (ShortOf side (rest_price kind last w.fills)) w.rest

pub remainder_short : (side : Side) (kind : Kind) (range : Range) (last lots : ℕ) (os : List Order) → sorted (other_side side) os ≡ true →
    (sweep (taker side kind range) 0 lots os).out ≡ false → 1 ≤ (sweep (taker side kind range) 0 lots os).left →
    ShortOfRest side kind last (sweep (taker side kind range) 0 lots os)
remainder_short side kind range last lots os h e l =
    let q : Taker = taker side kind range in
    let w : Swept = sweep q 0 lots os in
    short-all side (rest_price kind last w.fills) w.rest (next-short side kind range last lots os e l)
    (sweep-sorted (other_side side) q 0 lots os h).rest
