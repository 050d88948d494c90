-- Document 01, "Book and report room": "Each side has a lent table of .. 64-bit numbers, .. orders of number, price and lots left,
-- best first. After acceptance the rest of the .. is zero and everything past it is untouched." The sizes stand in terms/specs/Sizes.antt.
use Rattle.std.specs.Prelude.{ℕ, zero, suc, ◌+◌, ◌-◌, ◌*◌, ◌≤◌, ◌≡◌, List, [], ◌∷◌, ◌++◌, length, get_or, drop, replicate}
use Rattle.terms.specs.declared.Order.{Order}
use Rattle.terms.specs.Sizes.{slots}
use Rattle.tables.specs.Lengths.{width, table_length}

-- "number, price and lots left": the numbers of an order's slot, `width` of them
abbrev pub numbers_of : Order → List ℕ
numbers_of o = o.number ∷ o.price ∷ o.lots ∷ []

-- the order in slot i
abbrev pub order_at : List ℕ → ℕ → Order
order_at t i = record { number = get_or t (width * i) 0; price = get_or t (width * i + 1) 0; lots = get_or t (width * i + 2) 0 }

-- the orders in the first n slots
unfoldable pub decode : ℕ → List ℕ → List Order
decode zero t = []
decode (suc n) t = order_at t 0 ∷ decode n (drop width t)

-- orders as numbers, slot after slot
unfoldable pub encode : List Order → List ℕ
encode [] = []
encode (o ∷ os) = numbers_of o ++ encode os

-- the table of these orders: "the rest .. is zero and everything past it is untouched", as it is in t
unfoldable pub table_of : List Order → List ℕ → List ℕ
table_of os t = encode os ++ (replicate (table_length - width * length os) 0 ++ drop table_length t)

-- t has its full length, holds n orders, and is zero behind them
pub record Holds (n : ℕ) (t : List ℕ) : Type 0 where
  pub few : n ≤ slots
  pub long : table_length ≤ length t
  pub shape : t ≡ table_of (decode n t) t

-- a table has room for its n orders; what lies behind them may be anything
pub record TableFor (n : ℕ) (t : List ℕ) : Type 0 where
  pub few : n ≤ slots
  pub long : table_length ≤ length t
