-- Document 01, "A session is sound when", its part on the book: "live counts are at most 256; live orders have distinct numbers already
-- given, lots 1 to 10,000, tick prices in the band, correct priority; best buy is below best sell". It is defined on plain values: the numbers
-- given, the tick, the band, and the orders of each side.
use Rattle.std.specs.Prelude.{ℕ, ◌≤◌, ◌≡◌, Bool, true, not, List, [], ◌∷◌, ◌++◌, leb, ltb, length}
use Rattle.terms.specs.declared.Side.{Side}
use Rattle.terms.specs.declared.Side.TheVariants.{Buy, Sell}
use Rattle.terms.specs.declared.Order.{Order}
use Rattle.terms.specs.declared.Band.{Band}
use Rattle.terms.specs.Sizes.{slots, lots_most}
use Rattle.terms.specs.Truth.{◌⊓◌, between}
use Rattle.terms.specs.Numbers.{is_lots, on_tick}
use Rattle.rules_law.specs.Slabs.{in_band}
use Rattle.book_law.specs.Priority.{rests, sorted}

-- "numbers already given, lots 1 to 10,000, tick prices in the band"
unfoldable pub order_sound : ℕ → ℕ → Band → Order → Bool
order_sound given tick b o = between 1 o.number given ⊓ is_lots o.lots ⊓ on_tick tick o.price ⊓ in_band b o.price

unfoldable pub each_sound : ℕ → ℕ → Band → List Order → Bool
each_sound given tick b [] = true
each_sound given tick b (o ∷ os) = order_sound given tick b o ⊓ each_sound given tick b os

-- "distinct numbers": no order has the number of a later one
unfoldable pub distinct : List Order → Bool
distinct [] = true
distinct (o ∷ os) = not (rests o.number os) ⊓ distinct os

-- "best buy is below best sell"
unfoldable pub uncrossed : List Order → List Order → Bool
uncrossed [] sells = true
uncrossed (b ∷ bs) [] = true
uncrossed (b ∷ bs) (s ∷ ss) = ltb b.price s.price

-- a sound book; its order numbers are distinct over both sides together
unfoldable pub book_sound : ℕ → ℕ → Band → List Order → List Order → Bool
book_sound given tick b buys sells =
    leb (length buys) slots
    ⊓ leb (length sells) slots
    ⊓ each_sound given tick b buys
    ⊓ each_sound given tick b sells
    ⊓ sorted Buy buys
    ⊓ sorted Sell sells
    ⊓ distinct (buys ++ sells)
    ⊓ uncrossed buys sells

-- ---- the same as facts, for proofs that compute with them

pub record OrderFits (given tick : ℕ) (b : Band) (o : Order) : Type 0 where
  pub number_some : 1 ≤ o.number
  pub number_given : o.number ≤ given
  pub lots_some : 1 ≤ o.lots
  pub lots_small : o.lots ≤ lots_most
  pub ticked : on_tick tick o.price ≡ true
  pub banded : in_band b o.price ≡ true

pub record BookFits (given tick : ℕ) (b : Band) (buys sells : List Order) : Type 0 where
  pub few_buys : length buys ≤ slots
  pub few_sells : length sells ≤ slots
  pub each_buy : each_sound given tick b buys ≡ true
  pub each_sell : each_sound given tick b sells ≡ true
  pub sorted_buys : sorted Buy buys ≡ true
  pub sorted_sells : sorted Sell sells ≡ true
  pub distinct_all : distinct (buys ++ sells) ≡ true
  pub apart : uncrossed buys sells ≡ true

-- ---- a book seen from one side

-- of two lists, the one that belongs to that side. Applied to buys and sells it gives the side's own orders; applied to a side's own orders
-- and those across it gives the buys
abbrev pub on_side : Side → List Order → List Order → List Order
on_side Buy own across = own
on_side Sell own across = across
