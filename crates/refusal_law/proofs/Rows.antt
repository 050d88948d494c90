-- "Refusal numbers, first that applies": the rows stand in the order of the paper's numbers.
use Prim.Native.Nat.{ℕ}
use mathlib.Core.Path.{◌≡◌, refl}
use mathlib.Core.List.{List, [], ◌∷◌}
use Rattle.terms.specs.declared.Event.{Event}
use Rattle.terms.specs.Refusals.{Rule, number_of}
use Rattle.state_law.specs.Day.{Day}
use Rattle.refusal_law.specs.Refusals.{rules}

-- the numbers of the refusals in a list of rules
unfoldable pub answered : List Rule → List ℕ
answered [] = []
answered (r ∷ rs) = number_of r.refusal ∷ answered rs

pub in_order : (d : Day) (e : Event) → answered (rules d e) ≡ 2 ∷ 3 ∷ 4 ∷ 5 ∷ 6 ∷ 7 ∷ 8 ∷ 9 ∷ 10 ∷ 11 ∷ []
unfolding answered
in_order d e = refl
