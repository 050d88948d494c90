-- The numbers that an app keeps and hands over: how many each value takes, where the sections of a session begin, and how an array of ten is
-- read.
use Rattle.std.specs.Prelude.{ℕ, ◌+◌, List, [], ◌∷◌, get_or}

abbrev pub settings_length : ℕ
settings_length = 8

abbrev pub session_length : ℕ
session_length = 44

abbrev pub event_length : ℕ
event_length = 6

-- the layout of stored numbers: a session begins with it, so that numbers stored by another layout are told apart. Layouts are counted from
-- 101, since before layouts were marked a category's number, 0 to 7, stood in that place
abbrev pub layout : ℕ
layout = 101

-- ---- the sections of a session, behind its layout

abbrev pub settings_base : ℕ
settings_base = 1

abbrev pub clock_base : ℕ
clock_base = 9

abbrev pub live_base : ℕ
live_base = 14

abbrev pub reckoning_base : ℕ
reckoning_base = 17

abbrev pub tape_base : ℕ
tape_base = 20

-- the ten numbers from a place on
abbrev pub ten_at : List ℕ → ℕ → List ℕ
ten_at ns at =
    get_or ns at 0
    ∷ get_or ns (at + 1) 0
    ∷ get_or ns (at + 2) 0
    ∷ get_or ns (at + 3) 0
    ∷ get_or ns (at + 4) 0
    ∷ get_or ns (at + 5) 0
    ∷ get_or ns (at + 6) 0
    ∷ get_or ns (at + 7) 0
    ∷ get_or ns (at + 8) 0
    ∷ get_or ns (at + 9) 0
    ∷ []
