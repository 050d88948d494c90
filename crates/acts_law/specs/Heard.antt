-- What can be known from settings and reports alone: the band, the reference, whether an end of the initial band was touched, how often
-- the band was widened. Nothing here speaks of a session.
use Rattle.std.specs.Prelude.{ℕ, ◌+◌, Bool, false, ◌&&◌, ◌||◌, List, [], ◌∷◌, leb}
use Rattle.std.specs.Option.{option_map_or, unwrap_or}
use Rattle.terms.specs.declared.Settings.{Settings}
use Rattle.terms.specs.declared.Band.{Band}
use Rattle.terms.specs.declared.Report.{Report}
use Rattle.terms.specs.declared.Said.{Said}
use Rattle.rules_law.specs.declared.Range.{Range}
use Rattle.rules_law.specs.Slabs.{slab_of, band_at, touches, cooling_length}
use Rattle.rules_law.specs.Reference.{opening_reference, range_of}
use Rattle.book_law.specs.Tells.{tells}
use Rattle.book_law.specs.Told.{total}

-- what the reports say of something in the end: what it was at first, changed by each report in turn
unfoldable pub last_said : {A : Type 0} → (A → Said → A) → A → List Report → A
last_said change x [] = x
last_said change x (r ∷ rs) = last_said change (change x r.said) rs

-- ---- the band: at first the initial one, then what a slab report tells

abbrev pub initial_band : Settings → Band
initial_band g = band_at g.base g.tick (slab_of g.category).initial

-- the band at "initial plus enhanced" percent
abbrev pub enhanced_band : Settings → Band
enhanced_band g = band_at g.base g.tick ((slab_of g.category).initial + (slab_of g.category).enhanced)

abbrev pub band_after : Band → Said → Band
band_after band x = unwrap_or (tells x).band band

abbrev pub band_said : Settings → List Report → Band
band_said g rs = last_said band_after (initial_band g) rs

-- ---- the reference: at first the opening one, then what a ref report tells

abbrev pub reference_after : ℕ → Said → ℕ
reference_after reference x = unwrap_or (tells x).reference reference

abbrev pub reference_said : Settings → List Report → ℕ
reference_said g rs = last_said reference_after (opening_reference g.base g.under g.days) rs

-- the range at the initial percent around that reference
abbrev pub range_said : Settings → List Report → Range
range_said g rs = range_of (slab_of g.category) (reference_said g rs)

-- ---- "A trade exactly at either end" of a band, whose cooling-off of 900,000 ms is over by time t

abbrev pub touched_in : Band → ℕ → ℕ → Said → Bool
touched_in band t time x = option_map_or (λ deal. touches band deal.price && leb (time + cooling_length) t) (tells x).deal false

-- one of the reports tells such a trade
unfoldable pub touched_by : Band → ℕ → List Report → Bool
touched_by band t [] = false
touched_by band t (r ∷ rs) = touched_in band t r.time r.said || touched_by band t rs

-- ---- how many of the reports are slab reports

abbrev pub slab_in : Said → ℕ
slab_in x = option_map_or (λ band. 1) (tells x).band 0

abbrev pub slabs_told : List Report → ℕ
slabs_told rs = total slab_in rs
