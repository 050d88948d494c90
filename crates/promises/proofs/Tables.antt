-- From calls to the definitions: what a call hands out and leaves is the outcome of its event on the day that was held, so a run of calls
-- is a run of the definitions. A refused call changes nothing that is held.
use Prim.Native.Nat.{ℕ, ◌+◌, ◌*◌}
use native.Mathlib.Omega.{arith}
use mathlib.Core.Path.{◌≡◌, refl, sym, ap, ◌∙◌, subst}
use mathlib.Core.Bool.{Bool, true, false}
use mathlib.Core.List.{List, [], ◌∷◌, ◌++◌}
use lib.ListN.{length, take}
use lib.Seq.{take-append_seam}
use Rattle.std.specs.Prelude.{Ok, Err}
use Rattle.terms.specs.declared.Event.{Event}
use Rattle.terms.specs.declared.Report.{Report}
use Rattle.terms.specs.declared.Refusal.{Refusal}
use Rattle.terms.specs.declared.Refusal.TheVariants.{SmallRoom}
use Rattle.tables.specs.Lengths.{record_length}
use Rattle.tables.specs.Records.{records_of}
use Rattle.terms.specs.Refusals.{Verdict, code_of}
use Rattle.tables.proofs.Records.{length_records}
use Rattle.terms.proofs.Refusals.{code_fine}
use Rattle.tables.specs.Put.{put}
use Rattle.book_law.specs.Told.{total}
use Rattle.state_law.specs.Day.{Day}
use Rattle.refusal_law.specs.Refusals.{refusal_of}
use Rattle.acts_law.specs.Acts.{act}
use Rattle.acts_law.specs.Asked.{asked_by}
use Rattle.engine_law.specs.Answers.{answer_count}
use Rattle.engine_law.specs.Outcome.{Outcome, decided, outcome, after, told}
use Rattle.engine_law.specs.Calls.{call_verdict, called, table_by}
use Rattle.engine_law.proofs.Joined.{after-append, told-append}
use Rattle.engine_law.proofs.Left.{outcome-day}
use Rattle.engine_law.proofs.Answers.{called-verdict, answered_code, answered-count}
use Rattle.engine_law.proofs.Applies.{called-outcome, small-verdict, roomy-verdict}
use Rattle.engine_law.proofs.Called.{fine-roomy}
use Rattle.promises.specs.Lots.{asked}
use Rattle.promises.specs.Runs.{Held, day_held, Call, has_room, Called, number_answered, counting, Calling, asked_over}
use Rattle.promises.specs.Runs.Calling.{ends, calls}
use Rattle.promises.proofs.Records.{records_tell}

-- ---- what the contract says that a call comes to

module _ (h : Held) (c : Call) where
  abbrev pub verdict_on : Verdict
  verdict_on = call_verdict h.session c.event h.buys h.sells c.room

  abbrev called_on : Outcome
  called_on = called h.session c.event h.buys h.sells c.room

  pub verdict-called : called_on.verdict ≡ verdict_on
  verdict-called = called-verdict h.session c.event h.buys h.sells c.room

  -- row 1 applies, or else the other rows decide, on the day that is held
  pub short-verdict : has_room h c ≡ false → verdict_on ≡ Err SmallRoom
  short-verdict = small-verdict h.session c.event h.buys h.sells c.room

  pub judged_verdict : has_room h c ≡ true → verdict_on ≡ refusal_of (day_held h) c.event
  judged_verdict = roomy-verdict h.session c.event h.buys h.sells c.room

  judged_called : has_room h c ≡ true → called_on ≡ outcome (day_held h) c.event
  judged_called = called-outcome h.session c.event h.buys h.sells c.room

-- what a call leaves, given the outcome of its event
pub record Left (o : Outcome) (h : Held) (rs : List Report) (h' : Held) : Type 0 where
  pub session : h'.session ≡ o.day.session
  pub buys : h'.buys ≡ table_by o.verdict o.day.buys h.buys
  pub sells : h'.sells ≡ table_by o.verdict o.day.sells h.sells
  pub reports : rs ≡ o.reports

-- records written to the front of a room are the first in it
pub first_records : (o : List Report) (room : List ℕ) → take (record_length * length o) (put room 0 (records_of o)) ≡ records_of o
unfolding put
first_records o room = rw (← length_records o) (take-append_seam (records_of o) _)

module _ (h h' : Held) (c : Call) (rs : List Report) (k : Called h c rs h') where
  left : Left (called_on h c) h rs h'
  left =
      let o : Outcome = called_on h c in
      let a = k.contract in
      let n : answer_count k.answered.answer ≡ length o.reports =
      answered-count h.session c.event h.buys h.sells c.room h'.buys h'.sells k.room k.answered a in
      record {
        session = k.session ∙ a.session;
        buys = a.bought;
        sells = a.sold;
        reports = records_tell rs o.reports (sym k.reports.0 ∙ n)
            (sym k.reports.1 ∙ (λ i. take (record_length * n i) (a.told i)) ∙ first_records o.reports c.room);
      }

  -- where nothing lent is short, it leaves what its event does on the day that was held
  pub judged : has_room h c ≡ true → Left (outcome (day_held h) c.event) h rs h'
  judged b = subst (λ o. Left o h rs h') (judged_called h c b) left

  -- a refused call hands out nothing and changes nothing
  pub refused-call : (r : Refusal) → verdict_on h c ≡ Err r → (rs ≡ []) × (h' ≡ h)
  unfolding called
  refused-call r v =
      let k' : Left (decided (Err r) (day_held h) (act (day_held h) c.event)) h rs h' =
      subst (λ x. Left (decided x (day_held h) (act (day_held h) c.event)) h rs h') v left in
      (k'.reports, λ i. record { session = k'.session i; buys = k'.buys i; sells = k'.sells i })

  -- the number that it answers is that of the first row that applies
  pub number_by : number_answered k ≡ code_of (verdict_on h c)
  number_by = answered_code h.session c.event h.buys h.sells c.room h'.buys h'.sells k.room k.answered k.contract

  -- a call that answers 0 found nothing short, and its event was accepted on the day that was held
  accepted-call : number_answered k ≡ 0 → (has_room h c ≡ true) × ((outcome (day_held h) c.event).verdict ≡ Ok tt)
  accepted-call z =
      let v : (called_on h c).verdict ≡ Ok tt = verdict-called h c ∙ code_fine (verdict_on h c) (sym number_by ∙ z) in
      let b : has_room h c ≡ true = fine-roomy h.session c.event h.buys h.sells c.room v in
      (b, sym (ap (λ (o : Outcome). o.verdict) (judged_called h c b)) ∙ v)

  -- to prove a law of a call: if nothing lent is short, prove it from what its event does; otherwise from the call changing nothing
  pub by_room : (P : Bool → Type 0) → (Left (outcome (day_held h) c.event) h rs h' → P true) → ((rs ≡ []) × (h' ≡ h) → P false) →
      P (has_room h c)
  by_room P f g = go (has_room h c) refl
    where
      go : (b : Bool) → has_room h c ≡ b → P b
      go true e = f (judged e)
      go false e = g (refused-call SmallRoom (short-verdict h c e))

-- the day that is read from the tables after an event is the day of its outcome
pub held-outcome : (h h' : Held) (e : Event) (rs : List Report) → Left (outcome (day_held h) e) h rs h' → day_held h' ≡ (outcome (day_held h) e).day
held-outcome h h' e rs k = outcome-day h.session h'.session h.buys h.sells h'.buys h'.sells e k.session k.buys k.sells

-- ---- a run of calls

-- a run from day d on: its reports, and the day that is held at the end, are those of the events
pub record Follows (d : Day) (es : List Event) (rs : List Report) (h : Held) : Type 0 where
  pub reports : rs ≡ told d es
  pub day : day_held h ≡ after d es

-- one event, followed by others
judged_next : (h h' h'' : Held) (e : Event) (es : List Event) (rs rs' : List Report) → Left (outcome (day_held h) e) h rs h' →
    Follows (day_held h') es rs' h'' → Follows (day_held h) (e ∷ es) (rs ++ rs') h''
unfolding told after
judged_next h h' h'' e es rs rs' k f =
    let d : day_held h' ≡ (outcome (day_held h) e).day = held-outcome h h' e rs k in
    let r : rs' ≡ told (outcome (day_held h) e).day es = f.reports ∙ ap (λ (x : Day). told x es) d in
    record { reports = λ i. k.reports i ++ r i; day = f.day ∙ ap (λ (x : Day). after x es) d }

pub run_follows : (h : Held) (es : List Event) (rs : List Report) (h' : Held) → Calling h es rs h' → Follows (day_held h) es rs h'
unfolding told after
run_follows h es rs h' (ends h₀) = record { reports = refl; day = refl }
run_follows h es rs h' (calls h₀ h₁ h₂ c es₀ rs₀ rs₁ k run) =
    let f : Follows (day_held h₁) es₀ rs₁ h₂ = run_follows h₁ es₀ rs₁ h₂ run in
    by_room h₀ h₁ c rs₀ k (λ (b : Bool). Follows (day_held h₀) (counting b c.event es₀) (rs₀ ++ rs₁) h₂)
    (λ l. judged_next h₀ h₁ h₂ c.event es₀ rs₀ rs₁ l f)
    (λ n. let d : day_held h₁ ≡ day_held h₀ = ap day_held n.1 in
    record {
      reports = (λ i. n.0 i ++ f.reports i) ∙ ap (λ (x : Day). told x es₀) d;
      day = f.day ∙ ap (λ (x : Day). after x es₀) d;
    })

-- what is asked for by the calls' own reports is what the definitions say is asked for
pub run-asks : (id : ℕ) (h : Held) (es : List Event) (rs : List Report) (h' : Held) (run : Calling h es rs h') → asked_over id run ≡ asked id (day_held h) es
unfolding asked_over asked total
run-asks id h es rs h' (ends h₀) = refl
run-asks id h es rs h' (calls h₀ h₁ h₂ c es₀ rs₀ rs₁ k run) =
    let q : asked_over id run ≡ asked id (day_held h₁) es₀ = run-asks id h₁ es₀ rs₁ h₂ run in
    by_room h₀ h₁ c rs₀ k
    (λ (b : Bool). asked_by id c.event.act rs₀ + asked_over id run ≡ asked id (day_held h₀) (counting b c.event es₀))
    (λ l. (λ i. asked_by id c.event.act (l.reports i) + q i)
    ∙ ap (λ (d : Day). asked_by id c.event.act (outcome (day_held h₀) c.event).reports + asked id d es₀) (held-outcome h₀ h₁ c.event rs₀ l))
    (λ n. let none : asked_by id c.event.act rs₀ ≡ 0 = ap (asked_by id c.event.act) n.0 in
    let same : asked id (day_held h₁) es₀ ≡ asked id (day_held h₀) es₀ = ap (λ (x : Held). asked id (day_held x) es₀) n.1 in
    omega arith)

-- ---- a run cut in two by a call that accepts its event

-- the whole run follows the definitions, and the event is accepted on the day that the events before it leave
pub record Cut (d : Day) (before later : List Event) (e : Event) (rs own rest : List Report) (h'' : Held) : Type 0 where
  pub whole : Follows d (before ++ (e ∷ later)) (rs ++ (own ++ rest)) h''
  pub accepted : (outcome (after d before) e).verdict ≡ Ok tt
  pub told-own : own ≡ (outcome (after d before) e).reports

pub cut : (d : Day) (before later : List Event) (e : Event) (rs own rest : List Report) (h h' h'' : Held) (c : Call) → Follows d before rs h →
    (k : Called h c own h') → Calling h' later rest h'' → c.event ≡ e → number_answered k ≡ 0 → Cut d before later e rs own rest h''
cut d before later e rs own rest h h' h'' c f k run same z =
    let a = accepted-call h h' c own k z in
    let l : Left (outcome (day_held h) e) h own h' = subst (λ x. Left (outcome (day_held h) x) h own h') same (judged h h' c own k a.0) in
    let g : Follows (day_held h) (e ∷ later) (own ++ rest) h'' = judged_next h h' h'' e later own rest l (run_follows h' later rest h'' run) in
    record {
      whole = record {
        reports = (λ i. f.reports i ++ g.reports i)
            ∙ ap (λ (x : Day). told d before ++ told x (e ∷ later)) f.day
            ∙ sym (told-append d before (e ∷ later));
        day = g.day ∙ ap (λ (x : Day). after x (e ∷ later)) f.day ∙ sym (after-append d before (e ∷ later));
      };
      accepted = ap (λ (x : Day). (outcome x e).verdict) (sym f.day) ∙ subst (λ x. (outcome (day_held h) x).verdict ≡ Ok tt) same a.1;
      told-own = l.reports ∙ ap (λ (x : Day). (outcome x e).reports) f.day;
    }
