-- A run begins with an opening, accepted or refused, and follows the definitions from that day on. After a refused opening every call is
-- refused, so nothing is reported and nothing changes.
use Prim.Native.Nat.{ℕ}
use native.Mathlib.Omega.{arith}
use mathlib.Core.Path.{◌≡◌, refl, sym, ap, ◌∙◌, subst}
use mathlib.Core.Bool.{false, cond}
use mathlib.Core.List.{List, [], ◌∷◌, ◌++◌}
use Rattle.std.specs.Prelude.{Ok, Err}
use Rattle.terms.specs.declared.Settings.{Settings}
use Rattle.terms.specs.declared.Event.{Event}
use Rattle.terms.specs.declared.Report.{Report}
use Rattle.terms.specs.declared.Refusal.{Refusal}
use Rattle.terms.specs.declared.Refusal.TheVariants.{SmallRoom, Unsound}
use Rattle.terms.specs.Refusals.{Verdict, code_of}
use Rattle.terms.specs.Settings.{settings_verdict}
use Rattle.terms.proofs.Logic.{cases}
use Rattle.terms.proofs.Refusals.{refusal-number}
use Rattle.tables.specs.Tables.{decode}
use Rattle.state_law.specs.declared.Session.{Session}
use Rattle.state_law.specs.declared.Opened.{Opened}
use Rattle.state_law.specs.Opening.{opened_by, opening_of, opened_session, fixed_session}
use Rattle.state_law.specs.Day.{Day, opened}
use Rattle.state_law.proofs.Begins.{opened-begun}
use Rattle.soundness_law.specs.Sound.{sound, day_in}
use Rattle.soundness_law.proofs.Days.{refused_unsound, fixed_unsound}
use Rattle.refusal_law.proofs.Accepted.{unsound_refused}
use Rattle.engine_law.specs.Outcome.{told}
use Rattle.engine_law.proofs.Kept.{unsound_nothing}
use Rattle.promises.specs.Runs.{Held, day_held, opened_on, Call, has_room, Calling, RunFrom, number_opened, CutAt, first_day, RunsAsDefined, CallsAfterRefusal}
use Rattle.promises.specs.Runs.Calling.{ends, calls}
use Rattle.promises.proofs.Kept.{empty_day}
use Rattle.promises.proofs.Tables.{verdict_on, short-verdict, judged_verdict, refused-call, number_by, Follows, run_follows, Cut, cut}

-- ---- the two cases of an opening

by_opening : (P : Opened → Type 0) (g : Settings) → (settings_verdict g ≡ Ok tt → P (opened_by g (Ok tt))) →
    ((r : Refusal) → settings_verdict g ≡ Err r → P (opened_by g (Err r))) → P (opening_of g)
unfolding opening_of
by_opening P g f h = go (settings_verdict g) refl
  where
    go : (v : Verdict) → settings_verdict g ≡ v → P (opened_by g v)
    go (Ok _) e = f e
    go (Err r) e = h r e

-- no order is live after an opening, whatever lies in the tables
pub opening-held : (g : Settings) (buys sells : List ℕ) → day_held (opened_on (opening_of g) buys sells) ≡ first_day g
unfolding opened_session fixed_session decode
opening-held g buys sells = by_opening (λ (o : Opened). day_held (opened_on o buys sells) ≡ empty_day o.session) g (λ e. refl) (λ r e. refl)

pub none_live : (g : Settings) → ((first_day g).session.live.buys ≡ 0) × ((first_day g).session.live.sells ≡ 0)
unfolding opened_session fixed_session
none_live g = by_opening (λ (o : Opened). (o.session.live.buys ≡ 0) × (o.session.live.sells ≡ 0)) g (λ e. (refl, refl)) (λ r e. (refl, refl))

-- no number has been given
pub none-given : (g : Settings) → (first_day g).session.live.given ≡ 0
unfolding fixed_session
none-given g = by_opening (λ (o : Opened). o.session.live.given ≡ 0) g (λ e. (opened-begun g).none-given) (λ r e. refl)

-- an opening that answers 0 begins the day of its settings, which no refusal applies to
pub opened-fine : (g : Settings) → code_of (opening_of g).verdict ≡ 0 → (settings_verdict g ≡ Ok tt) × (first_day g ≡ opened g)
opened-fine g =
    by_opening (λ (o : Opened). code_of o.verdict ≡ 0 → (settings_verdict g ≡ Ok tt) × (empty_day o.session ≡ opened g)) g
    (λ e z. (e, refl))
    (λ r e z. absurd (omega (arith, (refusal-number r).0)))

-- any other opening begins with the fixed session
opened_fixed : (g : Settings) → (code_of (opening_of g).verdict ≡ 0 → ⊥) → (opening_of g).session ≡ fixed_session
opened_fixed g = by_opening (λ (o : Opened). (code_of o.verdict ≡ 0 → ⊥) → o.session ≡ fixed_session) g (λ e n. absurd (n refl)) (λ r e n. refl)

-- ---- a run from an opening follows the definitions

module _ {g : Settings} {es : List Event} {rs : List Report} {h : Held} (r : RunFrom g es rs h) where
  abbrev pub start : Held
  start = opened_on r.opening r.buys r.sells

  pub start-held : day_held start ≡ first_day g
  start-held = ap (λ (o : Opened). day_held (opened_on o r.buys r.sells)) r.contract ∙ opening-held g r.buys r.sells

  pub number-opened : number_opened r ≡ code_of (opening_of g).verdict
  number-opened = ap (λ (o : Opened). code_of o.verdict) r.contract

pub run_from_lem : (g : Settings) (es : List Event) (rs : List Report) (h : Held) → RunFrom g es rs h → Follows (first_day g) es rs h
run_from_lem g es rs h r = subst (λ d. Follows d es rs h) (start-held r) (run_follows (start r) es rs h r.run)

pub runs_as_defined : RunsAsDefined
runs_as_defined g es rs h r = let f = run_from_lem g es rs h r in (f.reports, f.day)

pub cut_from : (g : Settings) (before later : List Event) (e : Event) (rs own rest : List Report) (h : Held) →
    CutAt g before e later rs own rest h → Cut (first_day g) before later e rs own rest h
cut_from g before later e rs own rest h x =
    cut (first_day g) before later e rs own rest x.held x.left h x.call (run_from_lem g before rs x.held x.until) x.called
    x.following x.handed x.accepted

-- ---- a day that is not sound reports nothing

unsound_told : (d : Day) (es : List Event) → sound d ≡ false → told d es ≡ []
unfolding told
unsound_told d [] h = refl
unsound_told d (e ∷ es) h = let n = unsound_nothing d e h in (λ i. n.1 i ++ told (n.0 i) es) ∙ unsound_told d es h

-- so the reports of any run are those of the day of its settings; where the opening is refused that day is not sound, and both are none
pub run-told : (g : Settings) (es : List Event) (rs : List Report) (h : Held) → RunFrom g es rs h → rs ≡ told (opened g) es
unfolding fixed_session decode
run-told g es rs h r =
    (run_from_lem g es rs h r).reports
    ∙ by_opening (λ (o : Opened). told (empty_day o.session) es ≡ told (opened g) es) g
    (λ e. refl)
    (λ q e. unsound_told (empty_day fixed_session) es (fixed_unsound [] []) ∙ sym (unsound_told (opened g) es (refused_unsound g q e)))

-- ---- where every call is refused, nothing is reported and nothing changes

abbrev Stuck : Held → Type 0
Stuck h = (c : Call) → (r : Refusal) × (verdict_on h c ≡ Err r)

stuck_run : (h : Held) (es : List Event) (rs : List Report) (h' : Held) → Stuck h → Calling h es rs h' → (rs ≡ []) × (h' ≡ h)
stuck_run h es rs h' s (ends h₀) = (refl, refl)
stuck_run h es rs h' s (calls h₀ h₁ h₂ c es₀ rs₀ rs₁ k run) =
    let v = s c in
    let one : (rs₀ ≡ []) × (h₁ ≡ h₀) = refused-call h₀ h₁ c rs₀ k v.0 v.1 in
    let rest : (rs₁ ≡ []) × (h₂ ≡ h₁) = stuck_run h₁ es₀ rs₁ h₂ (subst Stuck (sym one.1) s) run in
    (λ i. one.0 i ++ rest.0 i, rest.1 ∙ one.1)

module _ (h : Held) (u : sound (day_held h) ≡ false) where
  -- a call is refused with 1 where something lent is short, else with 2
  unsound_verdict : (c : Call) → verdict_on h c ≡ cond (has_room h c) (Err Unsound) (Err SmallRoom)
  unsound_verdict c =
      cases (has_room h c) (λ b. judged_verdict h c b ∙ unsound_refused (day_held h) c.event u ∙ rw b refl) (λ b. short-verdict h c b ∙ rw b refl)

  unsound_stuck : Stuck h
  unsound_stuck c =
      cases (has_room h c) (λ b. (Unsound, unsound_verdict c ∙ rw b refl)) (λ b. (SmallRoom, unsound_verdict c ∙ rw b refl))

  unsound_number : (c : Call) → code_of (verdict_on h c) ≡ cond (has_room h c) 2 1
  unsound_number c =
      cases (has_room h c) (λ b. rw (unsound_verdict c, b) refl) (λ b. rw (unsound_verdict c, b) refl)

-- A REFUSED OPENING begins such a day
pub calls-after-refusal : CallsAfterRefusal
calls-after-refusal g es rs h r n =
    let fixed : r.opening.session ≡ fixed_session =
    ap (λ (o : Opened). o.session) r.contract ∙ opened_fixed g (λ z. n (number-opened r ∙ z)) in
    let u : sound (day_held (start r)) ≡ false =
    ap (λ (s : Session). sound (day_in s r.buys r.sells)) fixed ∙ fixed_unsound r.buys r.sells in
    let s : (rs ≡ []) × (h ≡ start r) = stuck_run (start r) es rs h (unsound_stuck (start r) u) r.run in
    (s.0, s.1, λ c rs' h' k. number_by h h' c rs' k ∙ unsound_number h (ap (λ (x : Held). sound (day_held x)) s.1 ∙ u) c)
