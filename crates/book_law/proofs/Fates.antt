-- What becomes of a remainder, case by case, with the paper's number of each reason; and what is reported of it.
use Prim.Native.Nat.{ℕ, ◌≤◌}
use native.Mathlib.Omega.{arith}
use mathlib.Core.Path.{◌≡◌, refl}
use mathlib.Core.Bool.{true, false}
use mathlib.Core.List.{List, [], ◌∷◌, ◌++◌}
use borrow.Author.Tests.{ne_eqb, eq-eqb}
use Rattle.terms.specs.declared.Band.{Band}
use Rattle.terms.specs.declared.Kind.{Kind}
use Rattle.terms.specs.declared.Kind.TheVariants.{Limit, Market}
use Rattle.terms.specs.declared.Life.{Life}
use Rattle.terms.specs.declared.Life.TheVariants.{AllDay, Ioc}
use Rattle.terms.specs.declared.Order.{Order}
use Rattle.terms.specs.declared.Said.TheVariants.{Convert}
use Rattle.terms.specs.declared.Side.{Side}
use Rattle.terms.specs.Reports.{why_of}
use Rattle.rules_law.specs.Slabs.{in_band}
use Rattle.book_law.specs.Priority.{insert}
use Rattle.book_law.specs.declared.Fate.{Fate}
use Rattle.book_law.specs.declared.Fate.TheVariants.{Done, Rests, Turns, Ends}
use Rattle.book_law.specs.Matching.{Swept, report_at, own_last_or, fate_of, settled, fate_reports}

-- the paper's number of the reason, 0 where nothing is cancelled
abbrev pub why_number : Fate → ℕ
why_number Done = 0
why_number (Rests price) = 0
why_number (Turns price) = 0
why_number (Ends why) = why_of why

module _ (band : Band) (last : ℕ) (w : Swept) where
  pub none_left : (life : Life) (kind : Kind) → w.left ≡ 0 → fate_of life kind band last w ≡ Done
  unfolding fate_of
  none_left life kind e = rw (eq-eqb w.left 0 e)

  -- "out of range: cancel the remainder, why 3", for every kind of order
  pub why_three : (life : Life) (kind : Kind) → 1 ≤ w.left → w.out ≡ true → why_number (fate_of life kind band last w) ≡ 3
  unfolding fate_of
  why_three life kind h e = rw (ne_eqb w.left 0 (λ z. omega arith), e)

  module _ (h : 1 ≤ w.left) (e : w.out ≡ false) where
    -- "A remainder then: ioc is cancelled, why 2."
    pub why_two : (kind : Kind) → why_number (fate_of Ioc kind band last w) ≡ 2
    unfolding fate_of
    why_two kind = rw (ne_eqb w.left 0 (λ z. omega arith), e)

    -- "A day limit rests."
    pub limit-rests : (limit : ℕ) → fate_of AllDay (Limit limit) band last w ≡ Rests limit
    unfolding fate_of
    limit-rests limit = rw (ne_eqb w.left 0 (λ z. omega arith), e)

    -- "A day market order becomes a limit at its own last trade price; if it had none", at the price given as the last
    pub market_turns : in_band band (own_last_or last w.fills) ≡ true → fate_of AllDay Market band last w ≡ Turns (own_last_or last w.fills)
    unfolding fate_of
    market_turns inside = rw (ne_eqb w.left 0 (λ z. omega arith), e, inside)

    -- "If that price is outside the band it is cancelled, why 4."
    pub why_four : in_band band (own_last_or last w.fills) ≡ false → why_number (fate_of AllDay Market band last w) ≡ 4
    unfolding fate_of
    why_four outside = rw (ne_eqb w.left 0 (λ z. omega arith), e, outside)

-- ---- "its own last trade price; if it had none", at the price given instead

pub own-last : (other : ℕ) (fs : List Order) (f : Order) → own_last_or other (fs ++ (f ∷ [])) ≡ f.price
unfolding own_last_or
own-last other [] f = refl
own-last other (x ∷ xs) f = own-last x.price xs f

pub none-traded : (other : ℕ) → own_last_or other [] ≡ other
unfolding own_last_or
none-traded other = refl

-- ---- a remainder that rests keeps its number, its price and all its lots; a conversion tells the order that then rests

module _ (side : Side) (time number left price : ℕ) (os : List Order) where
  abbrev remainder : Order
  remainder = record { number = number; price = price; lots = left }

  pub rests-whole : (settled side number left (Rests price) os ≡ insert side remainder os) × (fate_reports time number left (Rests price) ≡ [])
  rests-whole = (refl, refl)

  pub convert_told :
      (settled side number left (Turns price) os ≡ insert side remainder os)
      × (fate_reports time number left (Turns price) ≡ report_at time (Convert remainder) ∷ [])
  convert_told = (refl, refl)
