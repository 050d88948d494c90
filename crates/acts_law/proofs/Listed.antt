-- The reports of document 01's listing, read by the definitions in which the promises are stated: lots traded and cancelled, numbers given,
-- the band, the reference, a touch of the band, a widening.
use Prim.Native.Nat.{ℕ}
use mathlib.Core.Path.{◌≡◌, refl}
use mathlib.Core.Bool.{true, false}
use mathlib.Core.List.{List, [], ◌∷◌, map}
use lib.ListN.{take}
use Rattle.terms.specs.declared.Category.TheVariants.{Gems}
use Rattle.terms.specs.declared.Report.{Report}
use Rattle.terms.specs.declared.Said.{Said}
use Rattle.terms.specs.declared.Said.TheVariants.{Accept, Trade, Convert, Slab, Ref, Close}
use Rattle.terms.specs.declared.Settings.{Settings}
use Rattle.terms.specs.declared.Why.TheVariants.{Asked}
use Rattle.rules_law.specs.Slabs.{low_at, high_at}
use Rattle.rules_law.specs.Growth.{factorial, term, terms, growth, theoretical}
use Rattle.rules_law.specs.Reference.{theoretical_or}
use Rattle.book_law.specs.Matching.{report_at}
use Rattle.book_law.specs.Told.{total, traded, cancelled}
use Rattle.acts_law.specs.Acts.{ended}
use Rattle.acts_law.specs.Asked.{accepts, numbers_to}
use Rattle.acts_law.specs.Heard.{last_said, initial_band, band_said, reference_said, touched_by, slabs_told}

-- the settings of the listing: `cat=gems base=10000 close=10000 settle=10000 tick=5 len=3600000 days=0 under=0`
abbrev pub settings : Settings
settings = record { category = Gems; base = 10000; close = 10000; settle = 10000; tick = 5; length = 3600000; days = 0; under = 0 }

abbrev trade : ℕ → ℕ → ℕ → ℕ → Said
trade buy sell lots price = Trade (record { buy = buy; sell = sell; lots = lots; price = price })

abbrev pub reports : List Report
reports =
    report_at 0 (Accept 1)
    ∷ report_at 1000 (Accept 2)
    ∷ report_at 1000 (trade 2 1 1 10150)
    ∷ report_at 60000 (Ref 10150)
    ∷ report_at 60000 (Accept 3)
    ∷ report_at 61000 (Accept 4)
    ∷ report_at 61000 (trade 4 1 3 10150)
    ∷ report_at 61000 (trade 4 3 2 10300)
    ∷ report_at 61000 (Convert (record { number = 4; price = 10300; lots = 1 }))
    ∷ report_at 961000 (Slab (record { low = 9400; high = 10600 }))
    ∷ report_at 961000 (Ref 10225)
    ∷ ended 961000 4 1 Asked
    ∷ report_at 3600000 (Close (record { price = 10300; base = 10200 }))
    ∷ []

-- order 4 asked for six lots, of which five traded and one was cancelled; all four lots of order 1 traded
pub lots-told : traded 4 reports ∷ cancelled 4 reports ∷ traded 1 reports ∷ cancelled 1 reports ∷ [] ≡ 5 ∷ 1 ∷ 4 ∷ 0 ∷ []
unfolding total
lots-told = refl

pub numbers-told : (accepts reports ≡ 1 ∷ 2 ∷ 3 ∷ 4 ∷ []) × (numbers_to 4 ≡ 1 ∷ 2 ∷ 3 ∷ 4 ∷ [])
unfolding accepts numbers_to
numbers-told = (refl, refl)

-- before any report, the band is the initial one and the reference is the base; after all reports, both are what was told last
pub band-told : (band_said settings [] ≡ record { low = 9700; high = 10300 }) × (band_said settings reports ≡ record { low = 9400; high = 10600 })
unfolding last_said low_at high_at
band-told = (refl, refl)

pub reference-told : map (λ n. reference_said settings (take n reports)) (0 ∷ 3 ∷ 4 ∷ 10 ∷ 13 ∷ []) ≡ 10000 ∷ 10000 ∷ 10150 ∷ 10150 ∷ 10225 ∷ []
unfolding last_said theoretical_or theoretical growth terms term factorial
reference-told = refl

-- where an underlying is known, the opening reference is the theoretical price: here that of 10000 with 73 days to maturity
abbrev settings_known : Settings
settings_known = record { category = Gems; base = 10000; close = 10000; settle = 10000; tick = 5; length = 3600000; days = 73; under = 10000 }

pub theoretical-told : reference_said settings_known [] ≡ 10202
unfolding last_said theoretical_or theoretical growth terms term factorial
theoretical-told = refl

-- the trade at 10300 at time 61000 is the first that touches the initial band; its cooling-off is over at 961000 and not before
pub touch_told :
    map (λ t. touched_by (initial_band settings) t reports) (960999 ∷ 961000 ∷ []) ≡ false ∷ true ∷ []
unfolding touched_by low_at high_at
touch_told = refl

pub no_touch_told : map (λ n. touched_by (initial_band settings) 961000 (take n reports)) (0 ∷ 7 ∷ 8 ∷ []) ≡ false ∷ false ∷ true ∷ []
unfolding touched_by low_at high_at
no_touch_told = refl

-- the band is widened once
pub widened_told : slabs_told reports ≡ 1
unfolding total
widened_told = refl
