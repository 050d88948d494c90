-- What the orders of a day ask for and have: the lots that they ask for, under the numbers that the reports of acceptance give them; the
-- numbers given; the lots that rest.
use Rattle.std.specs.Prelude.{ℕ, zero, suc, ◌+◌, List, [], ◌∷◌, ◌++◌}
use Rattle.std.specs.Option.{option_map_or}
use Rattle.terms.specs.declared.Act.{Act}
use Rattle.terms.specs.declared.Report.{Report}
use Rattle.terms.specs.declared.Said.{Said}
use Rattle.book_law.specs.Over.{mine, lots_of}
use Rattle.book_law.specs.Told.{total}
use Rattle.state_law.specs.Day.{Day}
use Rattle.book_law.specs.Tells.{tells}
use Rattle.terms.specs.Carried.{carries}

-- the lots that an act asks for
abbrev pub wanted : Act → ℕ
wanted a = option_map_or (λ n. n.lots) (carries a).entry 0

-- these lots, if the report accepts the order with number id: the report of acceptance gives an order its number
abbrev pub asked_in : ℕ → ℕ → Said → ℕ
asked_in id lots x = option_map_or (λ number. mine id number lots) (tells x).accepted 0

-- the lots that the order with number id asks for, from an act and its reports
abbrev pub asked_by : ℕ → Act → List Report → ℕ
asked_by id a rs = total (asked_in id (wanted a)) rs

-- the lots that the order with number id has resting
abbrev pub resting : ℕ → Day → ℕ
resting id d = lots_of id d.buys + lots_of id d.sells

-- ---- the numbers given

abbrev pub accepts_in : Said → List ℕ
accepts_in x = option_map_or (λ number. number ∷ []) (tells x).accepted []

-- the numbers that the reports of acceptance give, in their order
unfoldable pub accepts : List Report → List ℕ
accepts [] = []
accepts (r ∷ rs) = accepts_in r.said ++ accepts rs

-- the numbers 1 to n
unfoldable pub numbers_to : ℕ → List ℕ
numbers_to zero = []
numbers_to (suc n) = numbers_to n ++ (suc n ∷ [])
