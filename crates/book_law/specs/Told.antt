-- What reports say of the order with number id: how many lots it traded, and how many were cancelled.
use Rattle.std.specs.Prelude.{ℕ, ◌+◌, List, [], ◌∷◌}
use Rattle.std.specs.Option.{option_map_or}
use Rattle.terms.specs.declared.Report.{Report}
use Rattle.terms.specs.declared.Said.{Said}
use Rattle.book_law.specs.Over.{mine}
use Rattle.book_law.specs.Tells.{tells}

-- the sum over some reports of a number that f gives for each
unfoldable pub total : (Said → ℕ) → List Report → ℕ
total f [] = 0
total f (r ∷ rs) = f r.said + total f rs

-- a trade counts for the buyer and for the seller
abbrev pub traded_in : ℕ → Said → ℕ
traded_in id x = option_map_or (λ deal. mine id deal.buy deal.lots + mine id deal.sell deal.lots) (tells x).deal 0

abbrev pub cancelled_in : ℕ → Said → ℕ
cancelled_in id x = option_map_or (λ ended. mine id ended.number ended.lots) (tells x).ended 0

abbrev pub traded : ℕ → List Report → ℕ
traded id rs = total (traded_in id) rs

abbrev pub cancelled : ℕ → List Report → ℕ
cancelled id rs = total (cancelled_in id) rs
