-- Document 01, "Numbers": the sizes, each named once. Later requests change them here. How long tables and records are stands in
-- tables/specs/Lengths.antt.
use Rattle.std.specs.Prelude.{ℕ, ◌+◌}

-- "Each side has a lent table of .. 256 orders"
abbrev pub slots : ℕ
slots = 256

-- "line room under 128 bytes"
abbrev pub line_room : ℕ
line_room = 128

-- "Order numbers are 1 to 60,000"
abbrev pub numbers_most : ℕ
numbers_most = 60000

-- "over 59,744 trades made": with this many, an order may still come in
abbrev pub trades_before : ℕ
trades_before = 59744

-- "trades at most 60,000": an order that comes in then can still meet every counter order
abbrev pub trades_most : ℕ
trades_most = trades_before + slots

-- "Prices are whole paise, 1 to 100,000,000. Quantities are lots, 1 to 10,000. Times are milliseconds from the open, 0 to 86,400,000."
abbrev pub price_most : ℕ
price_most = 100000000

abbrev pub lots_most : ℕ
lots_most = 10000

abbrev pub time_most : ℕ
time_most = 86400000

-- "base 1 to 50,000,000; ... tick 1 to 10,000; length 3,600,000 to 86,400,000; days to maturity 0 to 366"
abbrev pub base_most : ℕ
base_most = 50000000

abbrev pub tick_most : ℕ
tick_most = 10000

abbrev pub length_least : ℕ
length_least = 3600000

abbrev pub days_most : ℕ
days_most = 366

-- "a number above 999,999,999 to be written"
abbrev pub written_most : ℕ
written_most = 999999999

-- the sizes that soundness and the refusals ask about. Both are defined for any sizes, so that one day can be judged by two sets of them
pub record Sizes : Type 0 where
  -- orders on a side
  pub side : ℕ
  -- order numbers in a day
  pub numbers : ℕ
  -- the most trades after which an order may still come in
  pub before : ℕ
  -- the most trades in a day
  pub trades : ℕ

abbrev pub sizes : Sizes
sizes = record { side = slots; numbers = numbers_most; before = trades_before; trades = trades_most }
