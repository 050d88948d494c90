-- How a multiple of the tick is recognised without a division: by a factor that is computed once from the tick.
use Rattle.std.specs.Prelude.{ℕ, ◌+◌, ◌-◌, ◌/◌, ◌≤◌, ◌≡◌}
use Rattle.terms.specs.Sizes.{tick_most}

-- every price is below it
abbrev pub scale : ℕ
scale = 4294967296

-- for a price that is a multiple of the tick, price×factor÷scale is price÷tick
abbrev pub factor_of : ℕ → ℕ
factor_of tick = (scale - 1) / tick + 1

-- a tick together with its factor
pub record Dividing (tick factor : ℕ) : Type 0 where
  pub tick_some : 1 ≤ tick
  pub tick_small : tick ≤ tick_most
  pub factor_is : factor ≡ factor_of tick
