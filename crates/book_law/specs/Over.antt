-- Properties of lists of orders and sums over them, whether the orders are fills or resting orders.
use Rattle.std.specs.Prelude.{ℕ, ◌+◌, cond, List, [], ◌∷◌, eqb}
use Rattle.terms.specs.declared.Order.{Order}

-- each order has the property
abbrev pub Each : (Order → Type 0) → List Order → Type 0
Each P [] = Unit {0}
Each P (o ∷ os) = P o × Each P os

-- each price has the property
abbrev pub EachPrice : (ℕ → Type 0) → List Order → Type 0
EachPrice P os = Each (λ o. P o.price) os

-- the price of the first order has the property, if there is one
abbrev pub FirstPrice : (ℕ → Type 0) → List Order → Type 0
FirstPrice P [] = Unit {0}
FirstPrice P (o ∷ os) = P o.price

-- the sum over all orders of a number that f gives for each
unfoldable pub tally : (Order → ℕ) → List Order → ℕ
tally f [] = 0
tally f (o ∷ os) = f o + tally f os

-- n if the order `number` is the order id, else 0
abbrev pub mine : ℕ → ℕ → ℕ → ℕ
mine id number n = cond (eqb number id) n 0

-- the lots of all orders
abbrev pub sum_of : List Order → ℕ
sum_of os = tally (λ o. o.lots) os

-- the lots of the order with number id
abbrev pub lots_of : ℕ → List Order → ℕ
lots_of id os = tally (λ o. mine id o.number o.lots) os

-- how many orders have the number id
abbrev pub times : ℕ → List Order → ℕ
times id os = tally (λ o. mine id o.number 1) os
