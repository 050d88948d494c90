-- Each return of `kakoludar_apply` leaves what the definition says, given the engine's answer.
use Prim.Native.Nat.{ℕ, ◌≤◌, ◌<◌}
use native.Mathlib.Omega.{arith}
use mathlib.Core.Path.{◌≡◌, refl, sym, ◌∙◌, subst}
use mathlib.Core.Bool.{Bool, true, false, not}
use mathlib.Core.List.{List}
use borrow.Author.Tests.{lt-ltb, le-ltb, not-true, not-false}
use lib.ListN.{length}
use Rattle.std.specs.Prelude.{Ok, Err}
use Rattle.terms.specs.declared.Event.{Event}
use Rattle.terms.specs.declared.Refusal.{Refusal}
use Rattle.terms.specs.declared.Refusal.TheVariants.{SmallRoom, Unsound}
use Rattle.tables.specs.Lengths.{reports_most}
use Rattle.tables.specs.Records.{records_of}
use Rattle.terms.specs.Refusals.{Verdict, first_failed}
use Rattle.terms.proofs.Logic.{cases}
use Rattle.terms.proofs.Cascade.{fine-first}
use Rattle.tables.specs.Put.{put}
use Rattle.tables.proofs.Puts.{put-none}
use Rattle.state_law.specs.declared.Session.{Session}
use Rattle.soundness_law.specs.Sound.{day_in}
use Rattle.refusal_law.specs.Refusals.{rules, refusal_of}
use Rattle.refusal_law.proofs.Accepted.{accepted}
use Rattle.acts_law.specs.Acts.{act}
use Rattle.acts_law.proofs.Few.{act-few}
use Rattle.engine_law.specs.Answers.{Answer}
use Rattle.engine_law.specs.declared.Applied.{Applied}
use Rattle.engine_law.specs.Outcome.{Outcome, decided}
use Rattle.engine_law.specs.Calls.{roomy, call_verdict, called, answer_by, AppliedAs}
use Rattle.desk_packing_law.specs.Runs.{session_length, event_length}
use Rattle.desk_packing_law.specs.Sessions.{session_numbers, is_session, session_of, session_from}
use Rattle.desk_packing_law.specs.Events.{event_from}
use Rattle.desk_packing_law.specs.Answers.{count_most, answer_of}
use Rattle.desk_law.specs.Calls.{strange_verdict, called_on, AppliedOn, FewReported, LaidApplied, CarriedAs}
use Rattle.desk_law.proofs.Turned.{no-session_unsound}

-- ---- the engine's answer and the verdict

answered-refused : (v : Verdict) (k : ℕ) (n : Refusal) → Err n ≡ answer_by v k → v ≡ Err n
answered-refused (Ok _) k n p = absurd (let z : ◌≡◌ {A = ℕ} 0 1 = cc in omega arith)
answered-refused (Err r) k n p = cc

answered-fine : (v : Verdict) (k count : ℕ) → Ok count ≡ answer_by v k → (v ≡ Ok tt) × (count ≡ k)
answered-fine (Ok _) k count p = (refl, cc)
answered-fine (Err r) k count p = absurd (let z : ◌≡◌ {A = ℕ} 0 1 = cc in omega arith)

-- a call's reports are no more than the room holds
called-few : (s : Session) (e : Event) (buys sells room : List ℕ) → length (called s e buys sells room).reports ≤ reports_most
unfolding called call_verdict refusal_of
called-few s e buys sells room = go (call_verdict s e buys sells room) refl
  where
    go : (v : Verdict) → call_verdict s e buys sells room ≡ v → length (decided v (day_in s buys sells) (act (day_in s buys sells) e)).reports ≤ reports_most
    go (Ok _) h =
        let k : refusal_of (day_in s buys sells) e ≡ Ok tt = (fine-first SmallRoom (roomy buys sells room) (rules (day_in s buys sells) e) h).1 in
        act-few (day_in s buys sells) e (accepted (day_in s buys sells) e k).whole
    go (Err r) h = omega arith

pub apply_few : (s : Session) (e : Event) (buys sells room buys' sells' room' : List ℕ) (a : Applied) (count : ℕ) →
    AppliedAs s e buys sells room buys' sells' room' a → a.answer ≡ Ok count → count ≤ count_most
apply_few s e buys sells room buys' sells' room' a count h k =
    let o : Outcome = called s e buys sells room in
    let w = answered-fine o.verdict (length o.reports) count (sym k ∙ h.answer) in
    omega (arith, w.1, called-few s e buys sells room)

-- ---- numbers that are no session's

pub told-session : (ns : List ℕ) (found : Bool) → found ≡ is_session ns → not found ≡ false → is_session ns ≡ true
told-session ns found h t = sym h ∙ not-false found t

pub that_session : (ns : List ℕ) (s : Session) → is_session ns ≡ true → s ≡ session_of ns → s ≡ session_from ns
unfolding session_from
that_session ns s h e = rw h e

module _ (buys sells room : List ℕ) (found : Bool) (h : found ≡ roomy buys sells room) (r : ℕ) where
  pub strange_small : not found ≡ true → r ≡ answer_of (Err SmallRoom) 0 → r ≡ answer_of (strange_verdict buys sells room) 0
  unfolding strange_verdict
  strange_small t e = rw (← h, not-true found t) e

  pub strange_unsound : not found ≡ false → r ≡ answer_of (Err Unsound) 0 → r ≡ answer_of (strange_verdict buys sells room) 0
  unfolding strange_verdict
  strange_unsound t e = rw (← h, not-false found t) e

module _ (run event buys sells room : List ℕ) (r : ℕ) where
  -- ---- the session's numbers or the event's are too few

  pub apply_no-session : length run < session_length → r ≡ answer_of (Err SmallRoom) 0 → AppliedOn run event buys sells room run buys sells room r
  unfolding called_on records_of
  apply_no-session h e =
      let s = lt-ltb (length run) session_length h in
      record { answer = rw s e; kept = rw s; bought = rw s; sold = rw s; told = rw s (sym (put-none room 0)) }

  module _ (h : session_length ≤ length run) where
    pub apply_no-event : length event < event_length → r ≡ answer_of (Err SmallRoom) 0 → AppliedOn run event buys sells room run buys sells room r
    unfolding called_on records_of
    apply_no-event k e =
        let s = le-ltb (length run) session_length h in
        let t = lt-ltb (length event) event_length k in
        record { answer = rw (s, t) e; kept = rw (s, t); bought = rw (s, t); sold = rw (s, t); told = rw (s, t) (sym (put-none room 0)) }

    -- ---- they are enough, but the first are no session's

    module _ (k : event_length ≤ length event) where
      turned : (n : Refusal) → call_verdict (session_from run) (event_from event) buys sells room ≡ Err n → r ≡ answer_of (Err n) 0 →
          AppliedOn run event buys sells room run buys sells room r
      unfolding called_on called records_of
      turned n v e =
          let s = le-ltb (length run) session_length h in
          let t = le-ltb (length event) event_length k in
          record {
            answer = rw (s, t, v) e;
            kept = rw (s, t, v);
            bought = rw (s, t, v);
            sold = rw (s, t, v);
            told = rw (s, t, v) (sym (put-none room 0));
          }

      pub apply_strange : (found : Bool) → found ≡ is_session run → not found ≡ true → r ≡ answer_of (strange_verdict buys sells room) 0 →
          AppliedOn run event buys sells room run buys sells room r
      unfolding strange_verdict call_verdict first_failed
      apply_strange found f t e =
          let unsound = no-session_unsound run buys sells (sym f ∙ not-true found t) in
          cases (roomy buys sells room)
          (λ w. turned Unsound (rw (w, unsound)) (rw w at e))
          (λ w. turned SmallRoom (rw w) (rw w at e))

    -- ---- they are a session's, and the engine is called

    module _ (k : event_length ≤ length event) (s : Session) (e : Event) (i : s ≡ session_from run) (j : e ≡ event_from event) where
      abbrev out : Outcome
      out = called s e buys sells room

      on_call : called_on run event buys sells room ≡ out
      unfolding called_on
      on_call = rw (le-ltb (length run) session_length h, le-ltb (length event) event_length k, i, j)

      module _ (buys' sells' room' : List ℕ) (a : Applied) (p : AppliedAs s e buys sells room buys' sells' room' a) where
        pub apply-refused : (n : Refusal) → a.answer ≡ Err n → r ≡ answer_of (Err n) 0 →
            AppliedOn run event buys sells room run buys' sells' room' r
        apply-refused n q x =
            let v : out.verdict ≡ Err n = answered-refused out.verdict (length out.reports) n (sym q ∙ p.answer) in
            rw on_call (record { answer = rw v x; kept = rw v; bought = p.bought; sold = p.sold; told = p.told })

        pub apply-done : (count : ℕ) (run' ns : List ℕ) → a.answer ≡ Ok count → ns ≡ session_numbers a.session → run' ≡ put run 0 ns →
            r ≡ answer_of (Ok tt) count → AppliedOn run event buys sells room run' buys' sells' room' r
        apply-done count run' ns q f l x =
            let w = answered-fine out.verdict (length out.reports) count (sym q ∙ p.answer) in
            rw on_call
            (record { answer = rw (w.0, ← w.1) x; kept = rw (w.0, ← p.session, ← f) l; bought = p.bought; sold = p.sold; told = p.told })

-- ---- all of it

few_by : (o : Answer) → ((count : ℕ) → o ≡ Ok count → count ≤ count_most) → FewReported o
few_by (Ok count) f = f count refl
few_by (Err r) f = tt

pub few-told : {s : Session} {e : Event} {buys sells room buys' sells' room' : List ℕ} {a : Applied} →
    AppliedAs s e buys sells room buys' sells' room' a → FewReported a.answer
few-told {s} {e} {buys} {sells} {room} {buys'} {sells'} {room'} {a} p =
    few_by a.answer (λ count q. apply_few s e buys sells room buys' sells' room' a count p q)

pub laid-refused : {a : Applied} {run : List ℕ} {r : ℕ} {n : Refusal} → a.answer ≡ Err n → r ≡ answer_of (Err n) 0 → LaidApplied a run run r
laid-refused e x = record { answer = rw e x; kept = rw e }

pub laid_done : {a : Applied} {run run' ns : List ℕ} {r count : ℕ} → a.answer ≡ Ok count → ns ≡ session_numbers a.session → run' ≡ put run 0 ns →
    r ≡ answer_of (Ok tt) count → LaidApplied a run run' r
laid_done e f l x = record { answer = rw e x; kept = rw (e, ← f) l }

pub few-count : {o : Answer} {count : ℕ} → FewReported o → o ≡ Ok count → count ≤ count_most
few-count f e = rw e at f

module _ (run event buys sells room run' buys' sells' room' : List ℕ) (s : Session) (e : Event) (r : ℕ) (found : Bool) where
  pub carried_on : session_length ≤ length run → event_length ≤ length event → found ≡ is_session run → not found ≡ false → s ≡ session_of run → e ≡ event_from event →
      CarriedAs s e run buys sells room run' buys' sells' room' r → AppliedOn run event buys sells room run' buys' sells' room' r
  carried_on h k f n i j c = go c.applied.answer refl
    where
      there : s ≡ session_from run
      there = that_session run s (told-session run found f n) i

      go : (o : Answer) → c.applied.answer ≡ o → AppliedOn run event buys sells room run' buys' sells' room' r
      go (Ok count) q =
          apply-done run event buys sells room r h k s e there j buys' sells' room' c.applied c.came count run' (session_numbers c.applied.session) q refl (rw q at c.laid.kept) (rw q at c.laid.answer)
      go (Err m) q =
          subst (λ (x : List ℕ). AppliedOn run event buys sells room x buys' sells' room' r) (sym (rw q at c.laid.kept))
          (apply-refused run event buys sells room r h k s e there j buys' sells' room' c.applied c.came m q (rw q at c.laid.answer))
