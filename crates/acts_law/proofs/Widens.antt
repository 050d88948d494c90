-- "In the base it widens once": no event tells more slab reports than it makes widenings, and none narrows the band. A slab is told just
-- where the percent changed, a reference just where the value changed.
use Prim.Native.Nat.{ℕ, ◌+◌, ◌≤◌}
use native.Mathlib.Omega.{arith}
use native.Mathlib.Nat.{le_refl}
use mathlib.Core.Path.{◌≡◌, refl, ◌∙◌}
use mathlib.Core.Bool.{Bool, true, false, cond, not}
use mathlib.Core.List.{List}
use lib.Dec.{eqb}
use Rattle.std.specs.Option.{option_map_or}
use Rattle.terms.specs.declared.Act.{Act}
use Rattle.terms.specs.declared.Entry.{Entry}
use Rattle.terms.specs.declared.Event.{Event}
use Rattle.terms.specs.declared.Order.{Order}
use Rattle.terms.specs.declared.Report.{Report}
use Rattle.terms.specs.declared.Said.{Said}
use Rattle.terms.specs.declared.Side.{Side}
use Rattle.terms.specs.declared.Side.TheVariants.{Buy, Sell}
use Rattle.terms.proofs.Logic.{by, cases}
use Rattle.rules_law.specs.Slabs.{over_by}
use Rattle.book_law.specs.Matching.{Swept}
use Rattle.book_law.specs.Tells.{tells}
use Rattle.book_law.specs.Told.{total}
use Rattle.book_law.proofs.Remainder.{total-append}
use Rattle.state_law.specs.declared.Session.{Session}
use Rattle.state_law.specs.Set.{set_given}
use Rattle.state_law.specs.Now.{percent_now}
use Rattle.state_law.specs.Clock.{widened_by, clock_step}
use Rattle.state_law.specs.Trades.{with_trades}
use Rattle.state_law.specs.Day.{Day, own, across, day_with}
use Rattle.state_law.proofs.Leaves.{percent_changes, trades_leave}
use Rattle.acts_law.specs.Acts.{Acted, only, slab_moved, slab_report, ref_moved, ref_report, clock_reports, sweep_in, entered, dropped, side_of, withdrawn, silent, finished, stepped, timed, does, act}
use Rattle.acts_law.specs.Heard.{slab_in, slabs_told}
use Rattle.acts_law.proofs.Does.{sets_alike, enters, ends, does_by, Chains, act_by_lem}
use Rattle.acts_law.proofs.Pieces.{entered_each, finished_each, total-none}

-- ---- the clock steps

-- a report that is made only under a condition counts just where the condition holds
total-only : (f : Said → ℕ) (b : Bool) (r : Report) → total f (only b r) ≡ cond b (f r.said) 0
unfolding total
total-only f true r = omega arith
total-only f false r = refl

none-or_one : (b : Bool) → ◌≡◌ {A = ℕ} (cond (not b) 1 0) (cond b 0 1)
none-or_one true = refl
none-or_one false = refl

none-or-none : (b : Bool) → ◌≡◌ {A = ℕ} (cond b 0 0) 0
none-or-none true = refl
none-or-none false = refl

-- "slab (when the percent changed)"
pub slab_if_changed : (s s' : Session) → slabs_told (clock_reports s s') ≡ cond (eqb (percent_now s) (percent_now s')) 0 1
unfolding clock_reports
slab_if_changed s s' =
    let slab : List Report = only (slab_moved s s') (slab_report s') in
    let ref : List Report = only (ref_moved s s') (ref_report s') in
    omega (
      arith,
      total-append slab_in slab ref,
      total-only slab_in (slab_moved s s') (slab_report s'),
      total-only slab_in (ref_moved s s') (ref_report s'),
      none-or_one (eqb (percent_now s) (percent_now s')),
      none-or-none (ref_moved s s'),
    )

-- "ref (only if the value changed over the event)"
abbrev pub ref_in : Said → ℕ
ref_in x = option_map_or (λ price. 1) (tells x).reference 0

pub ref_if_changed : (s s' : Session) → total ref_in (clock_reports s s') ≡ cond (eqb s.reckoning.reference s'.reckoning.reference) 0 1
unfolding clock_reports
ref_if_changed s s' =
    let slab : List Report = only (slab_moved s s') (slab_report s') in
    let ref : List Report = only (ref_moved s s') (ref_report s') in
    omega (
      arith,
      total-append ref_in slab ref,
      total-only ref_in (slab_moved s s') (slab_report s'),
      total-only ref_in (ref_moved s s') (ref_report s'),
      none-or_one (eqb s.reckoning.reference s'.reckoning.reference),
      none-or-none (slab_moved s s'),
    )

-- ---- how often the band is widened

-- there are no more slab reports than widenings, so there is none where the band is not widened
abbrev pub Widens : Day → Acted → Type 0
Widens d a = slabs_told a.reports + d.session.clock.widened ≤ a.day.session.clock.widened

widens_then : Chains Widens
widens_then d a b h k = omega (arith, h, k, total-append slab_in a.reports b.reports)

widened_more : (w c t : ℕ) → w ≤ widened_by w c t
unfolding widened_by
widened_more w c t = by (λ (x : ℕ). w ≤ x) (over_by c t) (w + 1) w (λ e. omega arith) (λ e. le_refl w)

widened_over : (w c t : ℕ) → over_by c t ≡ true → widened_by w c t ≡ w + 1
unfolding widened_by
widened_over w c t e = rw e

clock_widens : (d : Day) (t : ℕ) → Widens d (stepped d t)
unfolding clock_step
clock_widens d t =
    let s : Session = d.session in
    let s' : Session = clock_step s t in
    let p : Bool = eqb (percent_now s) (percent_now s') in
    cases p
    (λ e. let none : slabs_told (clock_reports s s') ≡ 0 = rw e at (slab_if_changed s s') in omega (arith, widened_more s.clock.widened s.clock.cooling t))
    (λ e. let one : slabs_told (clock_reports s s') ≡ 1 = rw e at (slab_if_changed s s') in
    let over : over_by s.clock.cooling t ≡ true = percent_changes s t (rw e) in
    omega (arith, widened_over s.clock.widened s.clock.cooling t over))

-- an act leaves the band as it is, and tells no slab
still_widens : (d : Day) (a : Acted) → slabs_told a.reports ≡ 0 → a.day.session.clock.widened ≡ d.session.clock.widened → Widens d a
still_widens d a e f = omega arith

widened_with : (side : Side) (s : Session) (mine theirs : List Order) → (day_with side s mine theirs).session.clock.widened ≡ s.clock.widened
widened_with Buy s mine theirs = refl
widened_with Sell s mine theirs = refl

enter_widens : (d : Day) (n : Entry) → Widens d (enters d n)
enter_widens d n =
    let s : Session = d.session in
    let w : Swept = sweep_in s n (across n.side d) in
    let number : ℕ = s.live.given + 1 in
    still_widens d (enters d n)
    (total-none slab_in (enters d n).reports (entered_each _ s n (own n.side d) w (λ k. refl) (λ deal. refl) (λ o. refl) (λ e. refl)))
    (unfold entered in
    (widened_with n.side (with_trades (set_given s number) w.fills) _ _ ∙ (trades_leave (set_given s number) w.fills).widened))

does_widens : (d : Day) (a : Act) → Widens d (does d a)
unfolding total dropped finished
does_widens d a =
    does_by (Widens d) d a
    (λ n e. enter_widens d n)
    (λ number e. still_widens d (withdrawn d number) refl (widened_with (side_of number d.buys) d.session _ _))
    (λ s q. still_widens d (silent s d) refl (sets_alike q).widened)
    (λ settle e. still_widens d (ends d settle)
    (total-none slab_in (ends d settle).reports
    (finished_each _ d.session d.session.clock.time settle d.buys d.sells (λ x. refl) (λ c. refl))) refl)

-- NO MORE SLAB REPORTS THAN WIDENINGS, by each event on any day
pub act_widens : (d : Day) (e : Event) → Widens d (act d e)
unfolding total
act_widens d e =
    act_by_lem Widens widens_then d e (still_widens d (timed d e.time) refl refl) (clock_widens d e.time) (λ d'. does_widens d' e.act)
