-- Document 01, the second paragraph of "Numbers": what settings may be, and refusals 12 and 13.
use Rattle.std.specs.Prelude.{◌≤◌, ◌≡◌, Bool, true, [], ◌∷◌, leb}
use Rattle.terms.specs.declared.Settings.{Settings}
use Rattle.terms.specs.declared.Refusal.TheVariants.{SettingsRange, SettingsOffTick}
use Rattle.terms.specs.Truth.{◌⊓◌, between}
use Rattle.terms.specs.Sizes.{base_most, tick_most, length_least, time_most, days_most, price_most}
use Rattle.terms.specs.Numbers.{is_price, on_tick}
use Rattle.terms.specs.Refusals.{Verdict, unless, first_failed}

-- "category; base 1 to 50,000,000; previous close and previous settlement, prices; tick 1 to 10,000; length 3,600,000 to 86,400,000;
-- days to maturity 0 to 366; underlying 0 to 100,000,000"
unfoldable pub settings_ranged : Settings → Bool
settings_ranged g =
    between 1 g.base base_most
    ⊓ is_price g.close
    ⊓ is_price g.settle
    ⊓ between 1 g.tick tick_most
    ⊓ between length_least g.length time_most
    ⊓ leb g.days days_most
    ⊓ leb g.under price_most

-- "Base, close and settlement are multiples of the tick."
unfoldable pub settings_ticked : Settings → Bool
settings_ticked g = on_tick g.tick g.base ⊓ on_tick g.tick g.close ⊓ on_tick g.tick g.settle

-- "its settings are valid"
unfoldable pub settings_valid : Settings → Bool
settings_valid g = settings_ranged g ⊓ settings_ticked g

-- 12 is judged first, then 13
unfoldable pub settings_verdict : Settings → Verdict
settings_verdict g = first_failed (unless SettingsRange (settings_ranged g) ∷ unless SettingsOffTick (settings_ticked g) ∷ [])

-- what is known of settings that 12 lets pass
pub record Ranged (g : Settings) : Type 0 where
  pub base_some : 1 ≤ g.base
  pub base_small : g.base ≤ base_most
  pub close_some : 1 ≤ g.close
  pub close_small : g.close ≤ price_most
  pub settle_some : 1 ≤ g.settle
  pub settle_small : g.settle ≤ price_most
  pub tick_some : 1 ≤ g.tick
  pub tick_small : g.tick ≤ tick_most
  pub length_long : length_least ≤ g.length
  pub length_small : g.length ≤ time_most
  pub days_small : g.days ≤ days_most
  pub under_small : g.under ≤ price_most

-- what is known of settings that 12 and 13 let pass, for proofs that compute with them
pub record Valid (g : Settings) : Type 0 where
  pub is_in_range : Ranged g
  pub base_ticked : on_tick g.tick g.base ≡ true
  pub close_ticked : on_tick g.tick g.close ≡ true
  pub settle_ticked : on_tick g.tick g.settle ≡ true
