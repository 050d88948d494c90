-- Document 01, "Events": "Best price first, then lower number first". A side's orders are a list, best first.
use Rattle.std.specs.Prelude.{ℕ, Bool, true, false, cond, ◌&&◌, ◌||◌, List, [], ◌∷◌, ltb, eqb}
use Rattle.terms.specs.declared.Side.{Side}
use Rattle.terms.specs.declared.Side.TheVariants.{Buy, Sell}
use Rattle.terms.specs.declared.Order.{Order}
use Rattle.terms.specs.Truth.{◌⊓◌}

abbrev pub other_side : Side → Side
other_side Buy = Sell
other_side Sell = Buy

-- "Best price first": on side s, price p is better than price q
abbrev pub better : Side → ℕ → ℕ → Bool
better Buy p q = ltb q p
better Sell p q = ltb p q

-- "then lower number first": on side s, order a goes before order b
unfoldable pub ahead : Side → Order → Order → Bool
ahead s a b = better s a.price b.price || (eqb a.price b.price && ltb a.number b.number)

-- a side stands "best first": each order goes ahead of the next
unfoldable pub head_behind : Side → Order → List Order → Bool
head_behind s o [] = true
head_behind s o (x ∷ xs) = ahead s o x

unfoldable pub sorted : Side → List Order → Bool
sorted s [] = true
sorted s (o ∷ os) = head_behind s o os ⊓ sorted s os

-- a side with a new order in its place, ahead of the first order that it goes before
unfoldable pub insert : Side → Order → List Order → List Order
insert s o [] = o ∷ []
insert s o (x ∷ xs) = cond (ahead s o x) (o ∷ x ∷ xs) (x ∷ insert s o xs)

-- "Cancel removes a resting order": whether the order of that number rests,
unfoldable pub rests : ℕ → List Order → Bool
rests n [] = false
rests n (o ∷ os) = eqb o.number n || rests n os

-- the side without it,
unfoldable pub removed : ℕ → List Order → List Order
removed n [] = []
removed n (o ∷ os) = cond (eqb o.number n) os (o ∷ removed n os)

-- and the lots that it had left
unfoldable pub left_of : ℕ → List Order → ℕ
left_of n [] = 0
left_of n (o ∷ os) = cond (eqb o.number n) o.lots (left_of n os)

-- "It cancels all, ... in priority order": one order after the other, each removed by its number
unfoldable pub removed_each : List Order → List Order → List Order
removed_each [] side = side
removed_each (o ∷ os) side = removed_each os (removed o.number side)
