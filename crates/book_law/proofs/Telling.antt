-- A report carries the event's time and what is said; and what each kind of report tells, kind by kind.
use Prim.Native.Nat.{ℕ}
use mathlib.Core.Path.{◌≡◌, refl}
use mathlib.Core.List.{List, [], ◌∷◌, ◌++◌, map}
use Rattle.std.specs.Option.{option_map_or}
use Rattle.terms.specs.declared.Band.{Band}
use Rattle.terms.specs.declared.Closing.{Closing}
use Rattle.terms.specs.declared.Deal.{Deal}
use Rattle.terms.specs.declared.Ended.{Ended}
use Rattle.terms.specs.declared.Order.{Order}
use Rattle.terms.specs.declared.Said.{Said}
use Rattle.terms.specs.declared.Said.TheVariants.{Accept, Trade, Convert, Cancel, Slab, Ref, Close}
use Rattle.book_law.specs.Matching.{report_at}
use Rattle.book_law.specs.Tells.{tells}

pub report_is : (time : ℕ) (said : Said) → ((report_at time said).time ≡ time) × ((report_at time said).said ≡ said)
report_is time said = (refl, refl)

-- the parts that a report tells, each as the number of the kind that it belongs to
abbrev parts_told : Said → List ℕ
parts_told x =
    option_map_or (λ number. 1 ∷ []) (tells x).accepted []
    ++ (option_map_or (λ deal. 2 ∷ []) (tells x).deal []
    ++ (option_map_or (λ ended. 4 ∷ []) (tells x).ended []
    ++ (option_map_or (λ band. 5 ∷ []) (tells x).band []
    ++ option_map_or (λ price. 6 ∷ []) (tells x).reference [])))

-- a conversion and the closing prices tell nothing of accepted orders, trades, cancels, bands and references
pub parts : (number : ℕ) (deal : Deal) (order : Order) (ended : Ended) (band : Band) (price : ℕ) (closing : Closing) →
    map parts_told (Accept number ∷ Trade deal ∷ Convert order ∷ Cancel ended ∷ Slab band ∷ Ref price ∷ Close closing ∷ [])
    ≡ (1 ∷ []) ∷ (2 ∷ []) ∷ [] ∷ (4 ∷ []) ∷ (5 ∷ []) ∷ (6 ∷ []) ∷ [] ∷ []
parts number deal order ended band price closing = refl
