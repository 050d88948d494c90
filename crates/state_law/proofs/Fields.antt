-- Setting one field of a session changes that field and no other. The live counts of a day, and its orders by side. The range that is in
-- force.
use mathlib.Core.Path.{◌≡◌, refl}
use mathlib.Core.List.{List}
use lib.ListN.{length}
use Rattle.terms.specs.declared.Order.{Order}
use Rattle.terms.specs.declared.Side.{Side}
use Rattle.terms.specs.declared.Side.TheVariants.{Buy, Sell}
use Rattle.rules_law.specs.Slabs.{slab_of}
use Rattle.state_law.specs.declared.Session.{Session}
use Rattle.state_law.specs.Set.{set_time, set_closed, set_buys, set_sells, set_under, set_given}
use Rattle.state_law.specs.Now.{range_now}
use Rattle.state_law.specs.Day.{Day, day_of, own, across, day_with}

-- ---- fields

-- reading the field after setting it gives what was set, and setting it to what it holds changes nothing
pub record SetsOne {A : Type 0} (get : Session → A) (change : Session → A → Session) : Type 0 where
  pub there : (s : Session) (v : A) → get (change s v) ≡ v
  pub else_same : (s : Session) → change s (get s) ≡ s

pub sets_time : SetsOne (λ s. s.clock.time) set_time
sets_time = record { there = λ s v. refl; else_same = λ s. refl }

pub sets_closed : SetsOne (λ s. s.clock.closed) set_closed
sets_closed = record { there = λ s v. refl; else_same = λ s. refl }

pub sets_buys : SetsOne (λ s. s.live.buys) set_buys
sets_buys = record { there = λ s v. refl; else_same = λ s. refl }

pub sets_sells : SetsOne (λ s. s.live.sells) set_sells
sets_sells = record { there = λ s v. refl; else_same = λ s. refl }

pub sets_under_lem : SetsOne (λ s. s.clock.under) set_under
sets_under_lem = record { there = λ s v. refl; else_same = λ s. refl }

pub sets_given : SetsOne (λ s. s.live.given) set_given
sets_given = record { there = λ s v. refl; else_same = λ s. refl }

-- ---- days

-- the live counts are the numbers of orders
pub live_counts : (s : Session) (buys sells : List Order) →
    ((day_of s buys sells).session.live.buys ≡ length buys) × ((day_of s buys sells).session.live.sells ≡ length sells)
live_counts s buys sells = (refl, refl)

-- the buys are a buy's own orders and the sells are across from it; for a sell it is the other way round
pub sides : (d : Day) → (own Buy d ≡ d.buys) × (across Buy d ≡ d.sells) × (own Sell d ≡ d.sells) × (across Sell d ≡ d.buys)
sides d = (refl, refl, refl, refl)

-- a day made of a side's own orders and those across gives them back
pub sides_back : (side : Side) (s : Session) (mine theirs : List Order) →
    (own side (day_with side s mine theirs) ≡ mine) × (across side (day_with side s mine theirs) ≡ theirs)
sides_back Buy s mine theirs = (refl, refl)
sides_back Sell s mine theirs = (refl, refl)

-- ---- the range in force goes by the initial percent and the reference, whatever the band is

pub range_in_force : (s : Session) →
    ((range_now s).percent ≡ (slab_of s.settings.category).initial) × ((range_now s).reference ≡ s.reckoning.reference)
range_in_force s = (refl, refl)
