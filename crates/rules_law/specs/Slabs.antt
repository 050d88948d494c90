-- Document 01, "Slabs (001, tables A and B)".
use Rattle.std.specs.Prelude.{ℕ, ◌+◌, ◌-◌, ◌*◌, ◌/◌, ◌≤◌, Bool, cond, ◌&&◌, ◌||◌, not, leb, eqb}
use Rattle.terms.specs.declared.Category.{Category}
use Rattle.terms.specs.declared.Category.TheVariants.{Broad, Narrow, Sensitive, Energy, Metals, Precious, Gems, Other}
use Rattle.terms.specs.declared.Band.{Band}
use Rattle.terms.specs.Truth.{between}
use Rattle.terms.specs.Sizes.{base_most, tick_most}
use Rattle.rules_law.specs.declared.Row.{Row}

abbrev pub row : ℕ → ℕ → Row
row initial enhanced = record { initial = initial; enhanced = enhanced }

-- "Initial and enhanced percent: broad 4, 2; narrow 4, 2; sensitive 3, 1; energy 6, 3; metals 6, 3; precious 6, 3; gems 3, 3; other 6, 3."
abbrev pub slab_of : Category → Row
slab_of Broad = row 4 2
slab_of Narrow = row 4 2
slab_of Sensitive = row 3 1
slab_of Energy = row 6 3
slab_of Metals = row 6 3
slab_of Precious = row 6 3
slab_of Gems = row 3 3
slab_of Other = row 6 3

-- no band has a greater percent
abbrev pub percent_most : ℕ
percent_most = 30

-- "It starts at the initial percent. ... the percent becomes initial plus enhanced." It goes by how often the band has been widened
unfoldable pub percent_of : Row → ℕ → ℕ
percent_of slab widened = cond (eqb widened 0) slab.initial (slab.initial + slab.enhanced)

-- ---- the band

-- "the smallest tick multiple not below base×(100−p)/100"
unfoldable pub low_at : ℕ → ℕ → ℕ → ℕ
low_at base tick p = (base * (100 - p) + (100 * tick - 1)) / (100 * tick) * tick

-- "the greatest not above base×(100+p)/100 (house rounding)"
unfoldable pub high_at : ℕ → ℕ → ℕ → ℕ
high_at base tick p = base * (100 + p) / (100 * tick) * tick

-- "At percent p the band runs from .. to .."
abbrev pub band_at : ℕ → ℕ → ℕ → Band
band_at base tick p = record { low = low_at base tick p; high = high_at base tick p }

-- no band reaches higher
abbrev pub band_most : ℕ
band_most = 65000000

abbrev pub in_band : Band → ℕ → Bool
in_band b x = between b.low x b.high

-- base, tick and percent of a band are within their bounds
pub record Priced (base tick percent : ℕ) : Type 0 where
  pub base_small : base ≤ base_most
  pub tick_some : 1 ≤ tick
  pub tick_small : tick ≤ tick_most
  pub percent_small : percent ≤ percent_most

-- ---- the cooling-off: the time of its end, 0 where none runs

abbrev pub cooling_length : ℕ
cooling_length = 900000

-- "A trade exactly at either end"
abbrev pub touches : Band → ℕ → Bool
touches b price = eqb price b.low || eqb price b.high

-- "A trade exactly at either end, in the initial slab with no cooling-off running, starts one of 900,000 ms"
unfoldable pub cooling_after : ℕ → ℕ → ℕ → Band → ℕ → ℕ
cooling_after widened cooling time b price =
    cond (eqb widened 0) (cond (eqb cooling 0) (cond (touches b price) (time + cooling_length) cooling) cooling) cooling

-- "at or after its end"
abbrev pub over_by : ℕ → ℕ → Bool
over_by cooling t = not (eqb cooling 0) && leb cooling t
