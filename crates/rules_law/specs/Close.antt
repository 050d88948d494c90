-- Document 01, "Close price (000)": what is remembered of trades, the close price and the next base.
use Rattle.std.specs.Prelude.{ℕ, ◌+◌, ◌-◌, ◌*◌, ◌/◌, ◌≤◌, ◌<◌, min, Bool, cond, ◌||◌, List, [], ◌∷◌, ◌++◌, leb, ltb, eqb, get_or, set, take, drop, replicate}
use Rattle.terms.specs.declared.Closing.{Closing}
use Rattle.terms.specs.Sizes.{price_most, lots_most, trades_most}
use Rattle.rules_law.specs.declared.Tally.{Tally}
use Rattle.rules_law.specs.declared.Tape.{Tape}

-- ---- trades added up

abbrev pub no_tally : Tally
no_tally = record { count = 0; lots = 0; value = 0 }

unfoldable pub tallied : Tally → ℕ → ℕ → Tally
tallied t price lots = record { count = t.count + 1; lots = t.lots + lots; value = t.value + price * lots }

-- the tally after trades at these prices, of these lots
unfoldable pub tally_all : Tally → List ℕ → List ℕ → Tally
tally_all t [] sizes = t
tally_all t (p ∷ ps) [] = t
tally_all t (p ∷ ps) (n ∷ ns) = tally_all (tallied t p n) ps ns

-- value÷lots "to the nearest tick, halves up (house)"
unfoldable pub nearest : ℕ → ℕ → ℕ → ℕ
nearest tick value lots = (2 * value + lots * tick) / (2 * (lots * tick)) * tick

-- "their volume-weighted average", to the nearest tick
abbrev pub average : ℕ → Tally → ℕ
average tick t = nearest tick t.value t.lots

-- ---- the tape: the last ten trades, and those of the half hour

-- "trades at or after length−1,800,000"
abbrev pub in_half_hour : ℕ → ℕ → Bool
in_half_hour length time = leb (length - 1800000) time

-- "the remembered trades number the smaller of ten and all"
abbrev pub kept : ℕ → ℕ
kept trades = min 10 trades

-- ten numbers of which n are in use, with one more: the newest stands last, and the oldest goes where all ten are in use
unfoldable pub remembered : List ℕ → ℕ → ℕ → List ℕ
remembered old n x = cond (ltb n 10) (set old n x) (drop 1 (take 10 old) ++ (x ∷ []))

abbrev pub half_after : Tally → Bool → ℕ → ℕ → Tally
half_after half late price lots =
    record {
      count = cond late (tallied half price lots).count half.count;
      lots = cond late (tallied half price lots).lots half.lots;
      value = cond late (tallied half price lots).value half.value;
    }

-- before any trade
abbrev pub blank_tape : Tape
blank_tape = record { trades = 0; prices = replicate 10 0; sizes = replicate 10 0; half = no_tally }

-- the tape after a trade; `late` says whether the trade is in the half hour
unfoldable pub tape_after : Tape → Bool → ℕ → ℕ → Tape
tape_after t late price lots =
    record {
      trades = t.trades + 1;
      prices = remembered t.prices t.trades price;
      sizes = remembered t.sizes t.trades lots;
      half = half_after t.half late price lots;
    }

-- given one number of each of the last ten trades: that of the newest, or `other` before any trade
abbrev pub last_of : ℕ → ℕ → List ℕ → ℕ
last_of other trades ten = cond (eqb trades 0) other (get_or ten (kept trades - 1) 0)

-- "the last trade": its price, or `other` before any trade
unfoldable pub last_or : ℕ → Tape → ℕ
last_or other t = last_of other t.trades t.prices

-- the last trade's lots, 0 before any trade
unfoldable pub last_lots : Tape → ℕ
last_lots t = last_of 0 t.trades t.sizes

-- "that of the last ten"
abbrev pub last_ten : Tape → Tally
last_ten t = tally_all no_tally t.prices t.sizes

-- ---- the close

-- "with ten or more trades at or after length−1,800,000, their volume-weighted average; else with ten or more in all, that of the
-- last ten; else the last trade; else previous close"
unfoldable pub close_price : ℕ → ℕ → Tape → ℕ
close_price tick close t =
    cond (leb 10 t.half.count) (average tick t.half)
    (cond (leb 10 t.trades) (average tick (last_ten t))
    (last_or close t))

-- "Next base: the close in the first two cases, today's settlement in the others."
unfoldable pub next_base : ℕ → ℕ → Tape → ℕ → ℕ
next_base tick close t settle = cond (leb 10 t.half.count || leb 10 t.trades) (close_price tick close t) settle

abbrev pub closing_of : ℕ → ℕ → Tape → ℕ → Closing
closing_of tick close t settle = record { price = close_price tick close t; base = next_base tick close t settle }

-- ---- bounds, as facts for proofs that compute with them

-- "half-hour lots lie between the count and 10,000 times it, their price×lots sum .. lots×100,000,000"
pub record TallyFits (t : Tally) : Type 0 where
  pub count_small : t.count ≤ trades_most
  pub lots_some : t.count ≤ t.lots
  pub lots_small : t.lots ≤ lots_most * t.count
  pub value_small : t.value ≤ price_most * t.lots

-- "each remembered trade has 1 to 10,000 lots and a price .. up to 100,000,000", where ten are remembered
pub record TenFits (prices sizes : List ℕ) : Type 0 where
  pub price : (k : ℕ) → k < 10 → get_or prices k 0 ≤ price_most
  pub some : (k : ℕ) → k < 10 → 1 ≤ get_or sizes k 0
  pub small : (k : ℕ) → k < 10 → get_or sizes k 0 ≤ lots_most

pub record TapeFits (t : Tape) : Type 0 where
  pub trades_small : t.trades ≤ trades_most
  pub half_fits : TallyFits t.half
  pub ten_fits : 10 ≤ t.trades → TenFits t.prices t.sizes
