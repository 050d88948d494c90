-- Document 01, "Reference and range (002)": the reference and the execution range.
use Rattle.std.specs.Prelude.{ℕ, zero, suc, ◌+◌, ◌-◌, ◌*◌, ◌/◌, ◌≤◌, Bool, cond, leb, eqb}
use Rattle.terms.specs.declared.Band.{Band}
use Rattle.terms.specs.Sizes.{price_most, trades_most}
use Rattle.rules_law.specs.declared.Minute.{Minute}
use Rattle.rules_law.specs.declared.Reckoning.{Reckoning}
use Rattle.rules_law.specs.declared.Range.{Range}
use Rattle.rules_law.specs.declared.Row.{Row}
use Rattle.rules_law.specs.Growth.{theoretical}

-- "reference is 1 to 110,600,000": no theoretical price is greater
abbrev pub reference_most : ℕ
reference_most = 110600000

-- the theoretical price, or `other` where no underlying is known
unfoldable pub theoretical_or : ℕ → ℕ → ℕ → ℕ
theoretical_or other under days = cond (eqb under 0) other (theoretical under days)

-- "The opening reference is the theoretical price, or the base where the underlying is 0."
abbrev pub opening_reference : ℕ → ℕ → ℕ → ℕ
opening_reference base under days = theoretical_or base under days

-- ---- the minute

abbrev pub no_trades : Minute
no_trades = record { count = 0; sum = 0 }

-- each trade counts once, whatever its lots: "the plain average of their prices"
unfoldable pub minute_after : Minute → ℕ → Minute
minute_after m price = record { count = m.count + 1; sum = m.sum + price }

pub record MinuteFits (m : Minute) : Type 0 where
  pub count_small : m.count ≤ trades_most
  pub sum_small : m.sum ≤ price_most * m.count

-- ---- the boundaries

-- a reference at the start of a minute, before its first trade
abbrev pub quiet : ℕ → Reckoning
quiet price = record { reference = price; minute = no_trades }

-- "if the minute just ended had trades, the reference is the plain average of their prices, rounded down; else, if an underlying is
-- known, the theoretical price; else it stays"
abbrev pub boundary : ℕ → ℕ → Reckoning → Reckoning
boundary under days r =
    quiet (cond (eqb r.minute.count 0) (theoretical_or r.reference under days) (r.minute.sum / r.minute.count))

unfoldable pub boundaries : ℕ → ℕ → ℕ → Reckoning → Reckoning
boundaries zero under days r = r
boundaries (suc k) under days r = boundaries k under days (boundary under days r)

-- "At each multiple of 60,000 ms after 0": how many of them lie after one time, up to and including another
abbrev pub crossed : ℕ → ℕ → ℕ
crossed from to = to / 60000 - from / 60000

-- "An event first applies every boundary up to and including its time."
unfoldable pub reckoned : Reckoning → ℕ → ℕ → ℕ → ℕ → Reckoning
reckoned r under days from to = boundaries (crossed from to) under days r

-- ---- the range

-- "initial percent×reference. Enhancement doesn't widen it."
abbrev pub range_of : Row → ℕ → Range
range_of slab reference = record { percent = slab.initial; reference = reference }

-- "Price x is in range when 200×|x−reference| is at most initial percent×reference."
unfoldable pub in_range : Range → ℕ → Bool
in_range r x = leb (200 * (x - r.reference + (r.reference - x))) (r.percent * r.reference)

-- how far from the reference a price may lie, in whole paise: the greatest k for which 200×k is at most initial percent×reference
abbrev pub reach_of : Range → ℕ
reach_of r = r.percent * r.reference / 200

-- "Price x is in range when 200×|x−reference| is at most initial percent×reference": the least such price in whole paise
unfoldable pub range_low : Range → ℕ
range_low r = r.reference - reach_of r

-- and the greatest such price
unfoldable pub range_high : Range → ℕ
range_high r = r.reference + reach_of r

-- both ends of the range
abbrev pub range_ends : Range → Band
range_ends r = record { low = range_low r; high = range_high r }

pub record RangeFits (r : Range) : Type 0 where
  pub percent_small : r.percent ≤ 100
  pub reference_small : r.reference ≤ reference_most
