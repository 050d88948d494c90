-- AN EVENT as six numbers: time, do (1 buy, 2 sell, 3 cancel, 4 under, 5 clock, 6 close), kind (1 limit, 2 market), life (1 day, 2 ioc),
-- amount (lots, or the number of the order to cancel), price (limit, underlying or settlement). Unused ones are zero.
use Rattle.std.specs.Prelude.{ℕ, cond, List, [], ◌∷◌, Option, Some, None, unwrap_or, eqb, get_or}
use Rattle.std.specs.Option.{option_map_or, unwrap_or}
use Rattle.terms.specs.declared.Act.{Act}
use Rattle.terms.specs.declared.Act.TheVariants.{Enter, Withdraw, Under, Clock, Finish}
use Rattle.terms.specs.declared.Entry.{Entry}
use Rattle.terms.specs.declared.Event.{Event}
use Rattle.terms.specs.declared.Kind.{Kind}
use Rattle.terms.specs.declared.Kind.TheVariants.{Limit, Market}
use Rattle.terms.specs.declared.Life.{Life}
use Rattle.terms.specs.declared.Life.TheVariants.{AllDay, Ioc}
use Rattle.terms.specs.declared.Side.{Side}
use Rattle.terms.specs.declared.Side.TheVariants.{Buy, Sell}
use Rattle.terms.specs.Carried.{carries}
use Rattle.tables.specs.Same.{are_same}

abbrev pub side_number : Side → ℕ
side_number Buy = 1
side_number Sell = 2

abbrev pub kind_number : Kind → ℕ
kind_number (Limit price) = 1
kind_number Market = 2

abbrev pub life_number : Life → ℕ
life_number AllDay = 1
life_number Ioc = 2

-- what an act does
abbrev pub do_number : Act → ℕ
do_number (Enter n) = side_number n.side
do_number (Withdraw number) = 3
do_number (Under price) = 4
do_number Clock = 5
do_number (Finish settle) = 6

abbrev pub or_zero : Option ℕ → ℕ
or_zero n = unwrap_or n 0

-- the five numbers after the time: what the act does, then what it carries
abbrev pub act_numbers : Act → List ℕ
act_numbers a =
    do_number a
    ∷ option_map_or (λ n. kind_number n.kind) (carries a).entry 0
    ∷ option_map_or (λ n. life_number n.life) (carries a).entry 0
    ∷ unwrap_or (carries a).lots (or_zero (carries a).number)
    ∷ or_zero (carries a).price
    ∷ []

unfoldable pub event_numbers : Event → List ℕ
event_numbers e = e.time ∷ act_numbers e.act

-- ---- events read back

-- the kind and the life that some numbers make; a number that is none's is taken for the last
abbrev pub kind_by : ℕ → ℕ → Kind
kind_by kind price = cond (eqb kind 1) (Limit price) Market

abbrev pub life_by : ℕ → Life
life_by life = cond (eqb life 1) AllDay Ioc

-- the order of a side that some numbers make
abbrev pub entry_by : Side → ℕ → ℕ → ℕ → ℕ → Entry
entry_by side kind life lots price = record { side = side; kind = kind_by kind price; life = life_by life; lots = lots }

-- the act that some numbers make, a row for each number of what it does; a number that is none of these is taken for a clock event's
unfoldable pub act_by : ℕ → ℕ → ℕ → ℕ → ℕ → Act
act_by what kind life amount price =
    cond (eqb what 1) (Enter (entry_by Buy kind life amount price))
    (cond (eqb what 2) (Enter (entry_by Sell kind life amount price))
    (cond (eqb what 3) (Withdraw amount)
    (cond (eqb what 4) (Under price)
    (cond (eqb what 6) (Finish price) Clock))))

-- the event, where the numbers are its own
abbrev pub event_if : Event → List ℕ → Option Event
event_if e numbers = cond (are_same (event_numbers e) numbers) (Some e) None

unfoldable pub found_from : ℕ → ℕ → ℕ → ℕ → ℕ → ℕ → Option Event
found_from time what kind life amount price =
    event_if (record { time = time; act = act_by what kind life amount price }) (time ∷ what ∷ kind ∷ life ∷ amount ∷ price ∷ [])

-- the first six of some numbers
abbrev pub six_in : List ℕ → List ℕ
six_in ns = get_or ns 0 0 ∷ get_or ns 1 0 ∷ get_or ns 2 0 ∷ get_or ns 3 0 ∷ get_or ns 4 0 ∷ get_or ns 5 0 ∷ []

-- the event that some numbers stand for, or that they stand for none
unfoldable pub found_in : List ℕ → Option Event
found_in ns = found_from (get_or ns 0 0) (get_or ns 1 0) (get_or ns 2 0) (get_or ns 3 0) (get_or ns 4 0) (get_or ns 5 0)

-- numbers that are no event's are read as a clock event at the greatest time, which row 4 refuses
abbrev pub greatest : ℕ
greatest = 18446744073709551615

abbrev pub or_clock : Option Event → Event
or_clock found = unwrap_or found (record { time = greatest; act = Clock })

unfoldable pub event_from : List ℕ → Event
event_from ns = or_clock (found_in ns)
