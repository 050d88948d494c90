-- Document 01, "Book and report room": how long tables, records and the room are, each named once. Later requests change them here.
use Rattle.std.specs.Prelude.{ℕ, ◌*◌}
use Rattle.terms.specs.Sizes.{slots}

-- "orders of number, price and lots left"
abbrev pub width : ℕ
width = 3

-- "Each side has a lent table of .. 64-bit numbers"
abbrev pub table_length : ℕ
table_length = slots * width

-- "520 reports of six"
abbrev pub reports_most : ℕ
reports_most = 520

abbrev pub record_length : ℕ
record_length = 6

-- "Report room is .. numbers, 520 reports of six"
abbrev pub room_length : ℕ
room_length = reports_most * record_length
