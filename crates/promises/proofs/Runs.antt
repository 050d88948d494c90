-- The laws of one event, extended to runs by induction.
use Prim.Native.Nat.{ℕ, ◌+◌, ◌≤◌, ◌<◌}
use native.Mathlib.Omega.{arith}
use native.Mathlib.Nat.{le_refl, le_trans}
use mathlib.Core.Path.{◌≡◌, refl, sym, ap, ◌∙◌, subst}
use mathlib.Core.Bool.{true}
use mathlib.Core.List.{List, [], ◌∷◌, ◌++◌, append_assoc, append-nil}
use Rattle.std.specs.Prelude.{Ok}
use Rattle.terms.specs.declared.Settings.{Settings}
use Rattle.terms.specs.declared.Entry.{Entry}
use Rattle.terms.specs.declared.Event.{Event}
use Rattle.terms.specs.declared.Act.TheVariants.{Enter}
use Rattle.terms.specs.declared.Report.{Report}
use Rattle.book_law.specs.Told.{total, traded_in, cancelled_in, traded, cancelled}
use Rattle.book_law.proofs.Remainder.{total-append}
use Rattle.state_law.specs.Day.{Day}
use Rattle.soundness_law.specs.Sound.{sound}
use Rattle.acts_law.specs.Asked.{resting, accepts, numbers_to}
use Rattle.acts_law.specs.Heard.{slab_in, slabs_told}
use Rattle.acts_law.proofs.Numbers.{accepts-append}
use Rattle.acts_law.proofs.Hears.{Listener, listen_all, known_of, KnowsOf, TellsOf, none-tells, append-tells}
use Rattle.engine_law.specs.Outcome.{outcome, after, told}
use Rattle.engine_law.proofs.Kept.{outcome-sound, outcome-kept, outcome-counts, outcome-tells, outcome_widens, outcome_once, outcome-settings, outcome-forward, outcome-given, accepted-asks, asks_old, asks_new}
use Rattle.promises.specs.Lots.{asked}

-- ---- the laws of a run

pub run_sound : (d : Day) (es : List Event) → sound d ≡ true → sound (after d es) ≡ true
unfolding after
run_sound d [] h = h
run_sound d (e ∷ es) h = run_sound (outcome d e).day es (outcome-sound d e h)

pub run-forward : (d : Day) (es : List Event) → d.session.clock.time ≤ (after d es).session.clock.time
unfolding after
run-forward d [] = le_refl d.session.clock.time
run-forward d (e ∷ es) = le_trans (outcome-forward d e) (run-forward (outcome d e).day es)

pub run-kept : (id : ℕ) (d : Day) (es : List Event) →
    asked id d es + resting id d ≡ traded id (told d es) + cancelled id (told d es) + resting id (after d es)
unfolding asked told after total
run-kept id d [] = omega arith
run-kept id d (e ∷ es) =
    let d' : Day = (outcome d e).day in
    omega (
      arith,
      outcome-kept id d e,
      run-kept id d' es,
      total-append (traded_in id) (outcome d e).reports (told d' es),
      total-append (cancelled_in id) (outcome d e).reports (told d' es),
    )

pub run-counts : (d : Day) (es : List Event) → numbers_to d.session.live.given ++ accepts (told d es) ≡ numbers_to (after d es).session.live.given
unfolding told after accepts
run-counts d [] = append-nil (numbers_to d.session.live.given)
run-counts d (e ∷ es) =
    let d' : Day = (outcome d e).day in
    ap (λ (l : List ℕ). numbers_to d.session.live.given ++ l) (accepts-append (outcome d e).reports (told d' es))
    ∙ sym (append_assoc (numbers_to d.session.live.given) (accepts (outcome d e).reports) (accepts (told d' es)))
    ∙ ap (λ (l : List ℕ). l ++ accepts (told d' es)) (outcome-counts d e)
    ∙ run-counts d' es

pub run-settings : (d : Day) (es : List Event) → (after d es).session.settings ≡ d.session.settings
unfolding after
run-settings d [] = refl
run-settings d (e ∷ es) = run-settings (outcome d e).day es ∙ outcome-settings d e

-- every report is as it must be, and at the end a listener knows what is in force
pub run-tells : (g : Settings) (l : Listener) (d : Day) (es : List Event) → d.session.settings ≡ g → KnowsOf g l d.session →
    TellsOf g l (told d es) (after d es).session
unfolding told after
run-tells g l d [] k m = none-tells g (known_of d.session) l m
run-tells g l d (e ∷ es) k m =
    let rs : List Report = (outcome d e).reports in
    let d' : Day = (outcome d e).day in
    let p : TellsOf g l rs d'.session =
    subst (λ (x : Settings). KnowsOf x l d.session → TellsOf x l rs d'.session) k (outcome-tells d e l) m in
    append-tells g (known_of d'.session) (known_of (after d' es).session) l rs (told d' es) p
    (λ q. run-tells g (listen_all l rs) d' es (outcome-settings d e ∙ k) q)

pub run_widens : (d : Day) (es : List Event) → slabs_told (told d es) + d.session.clock.widened ≤ (after d es).session.clock.widened
unfolding told after total
run_widens d [] = omega arith
run_widens d (e ∷ es) =
    let d' : Day = (outcome d e).day in
    omega (arith, outcome_widens d e, run_widens d' es, total-append slab_in (outcome d e).reports (told d' es))

pub run_once : (d : Day) (es : List Event) → d.session.clock.widened ≤ 1 → (after d es).session.clock.widened ≤ 1
unfolding after
run_once d [] h = h
run_once d (e ∷ es) h = run_once (outcome d e).day es (outcome_once d e h)

-- ---- what is asked for under an order's number, over a run

pub asked-append : (id : ℕ) (d : Day) (es more : List Event) → asked id d (es ++ more) ≡ asked id d es + asked id (after d es) more
unfolding asked after
asked-append id d [] more = omega arith
asked-append id d (e ∷ es) more = omega (arith, asked-append id (outcome d e).day es more)

run-given : (d : Day) (es : List Event) → d.session.live.given ≤ (after d es).session.live.given
unfolding after
run-given d [] = le_refl d.session.live.given
run-given d (e ∷ es) = le_trans (outcome-given d e) (run-given (outcome d e).day es)

-- under a number that was given before the run, nothing is asked for in it
run_old : (id : ℕ) (d : Day) (es : List Event) → id ≤ d.session.live.given → asked id d es ≡ 0
unfolding asked
run_old id d [] h = refl
run_old id d (e ∷ es) h = omega (arith, asks_old id d e h, run_old id (outcome d e).day es (le_trans h (outcome-given d e)))

-- nor under one that is not given by its end
run_new : (id : ℕ) (d : Day) (es : List Event) → (after d es).session.live.given < id → asked id d es ≡ 0
unfolding asked after
run_new id d [] h = refl
run_new id d (e ∷ es) h =
    let d' : Day = (outcome d e).day in
    omega (arith, asks_new id d e (omega (arith, run-given d' es)), run_new id d' es h)

-- so what is asked for under a number in a run are the lots of the one order that has it
pub run-asked : (d : Day) (before later : List Event) (t : ℕ) (n : Entry) → (outcome (after d before) (record {
  time = t;
  act = Enter n;
})).verdict ≡ Ok tt →
    asked ((after d before).session.live.given + 1) d (before ++ (record { time = t; act = Enter n } ∷ later)) ≡ n.lots
unfolding asked
run-asked d before later t n h =
    let e : Event = record { time = t; act = Enter n } in
    let d' : Day = after d before in
    let id : ℕ = d'.session.live.given + 1 in
    let k = accepted-asks d' t n h in
    omega (
      arith,
      asked-append id d before (e ∷ later),
      run_new id d before (omega arith),
      k.0,
      run_old id (outcome d' e).day later (omega (arith, k.1)),
    )
