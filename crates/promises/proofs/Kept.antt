-- The promises of the definitions: each follows from a law of runs.
use Prim.Native.Nat.{ℕ, ◌+◌, ◌≤◌}
use native.Mathlib.Omega.{arith}
use mathlib.Core.Path.{◌≡◌, refl, sym, ◌∙◌, subst}
use mathlib.Core.Bool.{Bool, true, false, ◌||◌}
use mathlib.Core.List.{List, [], ◌∷◌, ◌++◌}
use Rattle.terms.specs.declared.Settings.{Settings}
use Rattle.terms.specs.declared.Band.{Band}
use Rattle.terms.specs.declared.Event.{Event}
use Rattle.terms.specs.declared.Act.TheVariants.{Enter}
use Rattle.terms.specs.declared.Report.{Report}
use Rattle.terms.specs.declared.Said.TheVariants.{Trade, Slab}
use Rattle.rules_law.specs.Slabs.{percent_of}
use Rattle.rules_law.specs.Reference.{opening_reference}
use Rattle.book_law.specs.Matching.{report_at}
use Rattle.book_law.specs.Over.{tally}
use Rattle.book_law.specs.Told.{traded, cancelled}
use Rattle.state_law.specs.declared.Session.{Session}
use Rattle.state_law.specs.Opening.{opened_session}
use Rattle.state_law.specs.Day.{Day, opened}
use Rattle.state_law.proofs.Begins.{opened-begun}
use Rattle.soundness_law.proofs.Days.{opened-sound}
use Rattle.refusal_law.proofs.Accepted.{sound-not_two}
use Rattle.acts_law.specs.Asked.{resting, accepts, numbers_to}
use Rattle.acts_law.specs.Heard.{last_said, initial_band, band_after, reference_after, reference_said, touched_in, touched_by}
use Rattle.acts_law.proofs.Hears.{Listener, listen, listen_all, EachFine, Cooled, TellsOf, fine-at}
use Rattle.engine_law.specs.Outcome.{after, told}
use Rattle.engine_law.specs.Standings.{standing_now}
use Rattle.engine_law.proofs.Kept.{outcome-verdict, outcome-few}
use Rattle.promises.specs.Lots.{asked, LotsKept, OrderKept}
use Rattle.promises.specs.Given.{GivenInOrder}
use Rattle.promises.specs.Within.{TradesWithin}
use Rattle.promises.specs.Slabs.{NeverNarrows, WidensAfterTouch, WidensToEnhanced, WidensOnce}
use Rattle.promises.specs.Standings.{StandsSaid}
use Rattle.promises.specs.Always.{AlwaysSound, NeverTwo, TimeForward, ReportsForward, ReportsFit}
use Rattle.engine_law.proofs.Joined.{after-append}
use Rattle.promises.proofs.Runs.{run_sound, run-forward, run-kept, run-counts, run-settings, run-tells, run_widens, run_once, run-asked}

-- a day without orders
abbrev pub empty_day : Session → Day
empty_day s = record { session = s; buys = []; sells = [] }

pub empty_kept : (id : ℕ) (s : Session) (es : List Event) →
    asked id (empty_day s) es ≡ traded id (told (empty_day s) es) + cancelled id (told (empty_day s) es) + resting id (after (empty_day s) es)
unfolding tally
empty_kept id s es = omega (arith, run-kept id (empty_day s) es)

pub lots-kept : LotsKept
lots-kept g es id = empty_kept id (opened_session g) es

-- for one order: its lots are all that is ever asked for under its number
pub order-kept : OrderKept
order-kept g before later t n h =
    sym (run-asked (opened g) before later t n h)
    ∙ lots-kept g (before ++ (record { time = t; act = Enter n } ∷ later)) ((after (opened g) before).session.live.given + 1)

-- numbers are given in order from 1, on a day that has given none
pub counts_from : (d : Day) (es : List Event) → d.session.live.given ≡ 0 → accepts (told d es) ≡ numbers_to (after d es).session.live.given
unfolding numbers_to
counts_from d es e = subst (λ (n : ℕ). numbers_to n ++ accepts (told d es) ≡ numbers_to (after d es).session.live.given) e (run-counts d es)

pub given_in_order : GivenInOrder
given_in_order g es = counts_from (opened g) es (opened-begun g).none-given

pub always_sound : AlwaysSound
always_sound g es h = run_sound (opened g) es (opened-sound g h)

pub never_two : NeverTwo
never_two g es e h c =
    let d : Day = after (opened g) es in
    sound-not_two d e (always_sound g es h) (rw (outcome-verdict d e) at c)

pub time_forward : TimeForward
time_forward g es more = rw (after-append (opened g) es more) (run-forward (after (opened g) es) more)

pub reports_fit : ReportsFit
reports_fit d e = outcome-few d e

-- ---- what a listener has heard, in terms of what the reports said

-- a listener at the opening, who knows the settings alone
abbrev first : Settings → Listener
first g = record { band = initial_band g; reference = opening_reference g.base g.under g.days; time = 0; past = [] }

band_heard : (l : Listener) (rs : List Report) → (listen_all l rs).band ≡ last_said band_after l.band rs
unfolding listen_all last_said
band_heard l [] = refl
band_heard l (r ∷ rs) = band_heard (listen l r) rs

reference_heard : (l : Listener) (rs : List Report) → (listen_all l rs).reference ≡ last_said reference_after l.reference rs
unfolding listen_all last_said
reference_heard l [] = refl
reference_heard l (r ∷ rs) = reference_heard (listen l r) rs

swap : (a b c : Bool) → (a || (b || c)) ≡ (b || (a || c))
swap true true c = refl
swap true false c = refl
swap false true c = refl
swap false false c = refl

-- the listener's past, which is kept newest first, has the same trades at the ends of the band as the reports
past_heard : (b : Band) (t : ℕ) (l : Listener) (rs : List Report) →
    touched_by b t (listen_all l rs).past ≡ (touched_by b t rs || touched_by b t l.past)
unfolding listen_all touched_by
past_heard b t l [] = refl
past_heard b t l (r ∷ rs) =
    past_heard b t (listen l r) rs
    ∙ swap (touched_by b t rs) (touched_in b t r.time r.said) (touched_by b t l.past)
    ∙ or_assoc (touched_in b t r.time r.said) (touched_by b t rs) (touched_by b t l.past)
  where
    or_assoc : (a b c : Bool) → (a || (b || c)) ≡ ((a || b) || c)
    or_assoc true b c = refl
    or_assoc false b c = refl

or_false : (a : Bool) → (a || false) ≡ true → a ≡ true
or_false true e = refl
or_false false e = e

-- at the opening no cooling-off runs
first_cooled : (g : Settings) → Cooled g (opened_session g).clock.cooling []
first_cooled g = rw (opened-begun g).not_cooling

all_told : (g : Settings) (es : List Event) → TellsOf g (first g) (told (opened g) es) (after (opened g) es).session
unfolding opened_session percent_of
all_told g es =
    run-tells g (first g) (opened g) es refl
    (record { band-same = refl; reference-same = refl; time_past = omega arith; cooled = first_cooled g })

all-fine : (g : Settings) (es : List Event) → EachFine g (first g) (told (opened g) es)
all-fine g es = (all_told g es).fine

pub trades-within : TradesWithin
trades-within g es before later t deal e =
    let f = (fine-at g (first g) before later (report_at t (Trade deal)) (rw e at (all-fine g es))).1.0 in
    (rw (band_heard (first g) before) at f.0, rw (reference_heard (first g) before) at f.1)

pub never_narrows : NeverNarrows
never_narrows g es before later t band e x h =
    let f = (fine-at g (first g) before later (report_at t (Slab band)) (rw e at (all-fine g es))).1.1 in
    f.wider x (rw (band_heard (first g) before) h)

pub widens_after_touch : WidensAfterTouch
unfolding touched_by
widens_after_touch g es before later t band e =
    let f = (fine-at g (first g) before later (report_at t (Slab band)) (rw e at (all-fine g es))).1.1 in
    or_false (touched_by (initial_band g) t before) (sym (past_heard (initial_band g) t (first g) before) ∙ f.touched)

pub widens_to_enhanced : WidensToEnhanced
widens_to_enhanced g es before later t band e =
    let f = (fine-at g (first g) before later (report_at t (Slab band)) (rw e at (all-fine g es))).1.1 in
    (rw (band_heard (first g) before) at f.before, f.told)

-- at the opening the band has not been widened, and it is widened at most once
pub widens_once : WidensOnce
unfolding opened_session
widens_once g es = omega (arith, run_widens (opened g) es, run_once (opened g) es (omega arith))

-- of two reports that follow each other, the second is not earlier
two_forward : (g : Settings) (l : Listener) (before later : List Report) (r r' : Report) → EachFine g l (before ++ (r ∷ (r' ∷ later))) →
    r.time ≤ r'.time
unfolding EachFine
two_forward g l [] later r r' f = f.1.0.0
two_forward g l (x ∷ xs) later r r' f = two_forward g (listen l x) xs later r r' f.1

pub reports-forward : ReportsForward
reports-forward g es before later r r' e = two_forward g (first g) before later r r' (rw e at (all-fine g es))

-- ---- what is in force is what the reports said

pub stands-said : StandsSaid
unfolding opened_session standing_now
stands-said g es =
    let s : Session = (after (opened g) es).session in
    let rs : List Report = told (opened g) es in
    let known = (all_told g es).known in
    let reference : s.reckoning.reference ≡ reference_said g rs = sym known.reference-same ∙ reference_heard (first g) rs in
    record {
      band = sym known.band-same ∙ band_heard (first g) rs;
      range = rw (run-settings (opened g) es, reference);
      reference = reference;
    }
