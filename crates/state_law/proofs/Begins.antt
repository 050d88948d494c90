-- What a day begins with, from which the promises of a run start; and what a refused opening returns.
use Prim.Native.Nat.{ℕ}
use mathlib.Core.Path.{◌≡◌, refl}
use mathlib.Core.Bool.{false}
use mathlib.Core.List.{List, [], ◌∷◌, ◌++◌}
use lib.ListN.{replicate}
use Rattle.std.specs.Prelude.{Ok, Err}
use Rattle.terms.specs.declared.Refusal.{Refusal}
use Rattle.terms.specs.declared.Settings.{Settings}
use Rattle.terms.specs.Refusals.{Verdict}
use Rattle.terms.specs.Categories.{row_of}
use Rattle.terms.specs.Settings.{settings_verdict}
use Rattle.rules_law.specs.declared.Reckoning.{Reckoning}
use Rattle.rules_law.specs.declared.Tape.{Tape}
use Rattle.rules_law.specs.Slabs.{slab_of, percent_of, band_at}
use Rattle.rules_law.specs.Reference.{opening_reference}
use Rattle.state_law.specs.declared.Session.{Session}
use Rattle.state_law.specs.Now.{band_now}
use Rattle.state_law.specs.Opening.{opened_session, fixed_session, opened_by, opening_of}

pub record Begun (s : Session) : Type 0 where
  -- no number has been given, so the first order gets number 1
  pub none-given : s.live.given ≡ 0
  -- no cooling-off runs, so no band is widened before a trade starts one
  pub not_cooling : s.clock.cooling ≡ 0
  -- "It starts at the initial percent."
  pub initial : band_now s ≡ band_at s.settings.base s.settings.tick (slab_of s.settings.category).initial
  -- "The opening reference is the theoretical price, or the base where the underlying is 0."
  pub reference : s.reckoning.reference ≡ opening_reference s.settings.base s.settings.under s.settings.days
  pub underlying : s.clock.under ≡ s.settings.under
  pub goes_on : s.clock.closed ≡ false
  -- no time has passed, no trade is made and no order rests
  pub empty : s.clock.time ∷ s.reckoning.minute.count ∷ s.tape.trades ∷ s.tape.half.count ∷ s.live.buys ∷ s.live.sells ∷ [] ≡ replicate 6 0

pub opened-settings : (g : Settings) → (opened_session g).settings ≡ g
unfolding opened_session
opened-settings g = refl

pub opened-begun : (g : Settings) → Begun (opened_session g)
unfolding opened_session percent_of
opened-begun g =
    record { none-given = refl; not_cooling = refl; initial = refl; reference = refl; underlying = refl; goes_on = refl; empty = refl }

-- ---- "a refused one returns its number and one fixed session"

pub opening-verdict : (g : Settings) → (opening_of g).verdict ≡ settings_verdict g
unfolding opening_of
opening-verdict g = go (settings_verdict g)
  where
    go : (v : Verdict) → (opened_by g v).verdict ≡ v
    go (Ok _) = refl
    go (Err r) = refl

pub refused-opening : (g : Settings) (r : Refusal) → settings_verdict g ≡ Err r → (opening_of g).session ≡ fixed_session
unfolding opening_of
refused-opening g r e = rw e

-- "broad, open, every number zero"
abbrev in_settings : Settings → List ℕ
in_settings g = row_of g.category ∷ g.base ∷ g.close ∷ g.settle ∷ g.tick ∷ g.length ∷ g.days ∷ g.under ∷ []

abbrev in_reckoning : Reckoning → List ℕ
in_reckoning r = r.reference ∷ r.minute.count ∷ r.minute.sum ∷ []

abbrev in_tape : Tape → List ℕ
in_tape t = t.trades ∷ t.half.count ∷ t.half.lots ∷ t.half.value ∷ (t.prices ++ t.sizes)

abbrev in_session : Session → List ℕ
in_session s =
    in_settings s.settings
    ++ (s.clock.time ∷ s.live.buys ∷ s.live.sells ∷ s.clock.widened ∷ s.clock.cooling ∷ s.clock.under ∷ s.live.given ∷ [])
    ++ (in_reckoning s.reckoning ++ in_tape s.tape)

pub fixed_zero : (in_session fixed_session ≡ replicate 42 0) × (fixed_session.clock.closed ≡ false)
unfolding fixed_session
fixed_zero = (refl, refl)
