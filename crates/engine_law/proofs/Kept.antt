-- What holds of every event on any day. A refused event changes nothing and tells nothing. An accepted one leaves a sound day, keeps every
-- lot, gives numbers in order, tells nothing that is not fine, and a slab only where it widens the band; it has no more reports than the room
-- can hold, and no number in them that cannot be written.
use Prim.Native.Nat.{ℕ, ◌+◌, ◌≤◌, ◌<◌}
use native.Mathlib.Omega.{arith}
use native.Mathlib.Nat.{le_refl}
use native.Mathlib.Numerals.{add-one}
use borrow.Author.Tests.{leb-true}
use mathlib.Core.Path.{◌≡◌, refl, ap, ◌∙◌}
use mathlib.Core.Bool.{true, false}
use mathlib.Core.List.{[], ◌∷◌, ◌++◌, append-nil, append_cancel_left}
use lib.ListN.{length}
use Rattle.std.specs.Prelude.{Option, Some, None, Ok, Err}
use Rattle.std.specs.Option.{option_map_or}
use Rattle.terms.specs.declared.Entry.{Entry}
use Rattle.terms.specs.declared.Event.{Event}
use Rattle.terms.specs.declared.Act.TheVariants.{Enter}
use Rattle.terms.specs.declared.Refusal.{Refusal}
use Rattle.terms.specs.declared.Refusal.TheVariants.{Unsound}
use Rattle.terms.specs.Refusals.{Verdict}
use Rattle.tables.specs.Lengths.{reports_most}
use Rattle.book_law.specs.Over.{mine}
use Rattle.book_law.proofs.Over.{mine-zero, mine-own, mine-other}
use Rattle.book_law.specs.Told.{total, traded, cancelled}
use Rattle.state_law.specs.code.Tens.{Ten}
use Rattle.state_law.specs.Day.{Day}
use Rattle.soundness_law.specs.Sound.{sound}
use Rattle.soundness_law.proofs.Days.{sound-day}
use Rattle.terms.specs.Carried.{carries}
use Rattle.refusal_law.specs.Refusals.{refusal_of}
use Rattle.refusal_law.proofs.Accepted.{Accepted, accepted, unsound_refused}
use Rattle.acts_law.specs.Acts.{act}
use Rattle.acts_law.specs.Heard.{slabs_told}
use Rattle.acts_law.specs.Small.{SmallReports}
use Rattle.acts_law.specs.Asked.{wanted, asked_by, resting, accepts, numbers_to}
use Rattle.acts_law.proofs.Stays.{act_stays}
use Rattle.acts_law.proofs.Lots.{act-kept, act-asks}
use Rattle.acts_law.proofs.Numbers.{act-counts, act-given}
use Rattle.acts_law.proofs.Hears.{Listener, known_of, KnowsOf, TellsOf, none-tells}
use Rattle.acts_law.proofs.Says.{act-tells, act-moved}
use Rattle.acts_law.proofs.Widens.{act_widens}
use Rattle.acts_law.proofs.Few.{act-few}
use Rattle.acts_law.proofs.Small.{act-small}
use Rattle.acts_law.proofs.Tens.{act_ten}
use Rattle.engine_law.specs.Outcome.{Outcome, decided, outcome}

-- ---- the two cases of an event

-- a law of outcomes is proved for an accepted event, from what it passed, and for a refused one, which leaves the day as it is
by_verdict : (P : Outcome → Type 0) (d : Day) (e : Event) → (Accepted d e → P (decided (Ok tt) d (act d e))) →
    ((r : Refusal) → P (decided (Err r) d (act d e))) → P (outcome d e)
unfolding outcome
by_verdict P d e f g = go (refusal_of d e) (λ h. accepted d e h)
  where
    go : (v : Verdict) → (v ≡ Ok tt → Accepted d e) → P (decided v d (act d e))
    go (Ok _) h = f (h refl)
    go (Err r) h = g r

-- "All refusals return the number and the session given, and write nothing."
pub refused-nothing : (d : Day) (e : Event) (r : Refusal) → (outcome d e).verdict ≡ Err r → ((outcome d e).day ≡ d) × ((outcome d e).reports ≡ [])
refused-nothing d e r =
    by_verdict (λ (o : Outcome). o.verdict ≡ Err r → (o.day ≡ d) × (o.reports ≡ [])) d e
    (λ k h. absurd (let z : ◌≡◌ {A = ℕ} 0 1 = cc in omega arith))
    (λ q h. (refl, refl))

-- the verdict is the first row that applies
pub outcome-verdict : (d : Day) (e : Event) → (outcome d e).verdict ≡ refusal_of d e
unfolding outcome
outcome-verdict d e = go (refusal_of d e)
  where
    go : (v : Verdict) → (decided v d (act d e)).verdict ≡ v
    go (Ok _) = refl
    go (Err r) = refl

-- so every event leaves an unsound day as it is, since 2 refuses it
pub unsound_nothing : (d : Day) (e : Event) → sound d ≡ false → ((outcome d e).day ≡ d) × ((outcome d e).reports ≡ [])
unsound_nothing d e h = refused-nothing d e Unsound (outcome-verdict d e ∙ unsound_refused d e h)

-- ---- soundness

-- AN ACCEPTED EVENT LEAVES A SOUND DAY, whatever the day was
pub accepted-sound : (d : Day) (e : Event) → (outcome d e).verdict ≡ Ok tt → sound (outcome d e).day ≡ true
accepted-sound d e =
    by_verdict (λ (o : Outcome). o.verdict ≡ Ok tt → sound o.day ≡ true) d e
    (λ k h. act_stays d e k)
    (λ r h. absurd (let z : ◌≡◌ {A = ℕ} 0 1 = cc in omega arith))

-- and no event leaves a sound day unsound
pub outcome-sound : (d : Day) (e : Event) → sound d ≡ true → sound (outcome d e).day ≡ true
outcome-sound d e h = by_verdict (λ (o : Outcome). sound o.day ≡ true) d e (λ k. act_stays d e k) (λ r. h)

-- ---- lots, numbers, reports, time

pub outcome-kept : (id : ℕ) (d : Day) (e : Event) →
    asked_by id e.act (outcome d e).reports + resting id d
    ≡ traded id (outcome d e).reports + cancelled id (outcome d e).reports + resting id (outcome d e).day
unfolding total
outcome-kept id d e =
    by_verdict (λ (o : Outcome). asked_by id e.act o.reports + resting id d ≡ traded id o.reports + cancelled id o.reports + resting id o.day) d e
    (λ k. act-kept id d e)
    (λ r. omega arith)

pub outcome-counts : (d : Day) (e : Event) →
    numbers_to d.session.live.given ++ accepts (outcome d e).reports ≡ numbers_to (outcome d e).day.session.live.given
unfolding accepts
outcome-counts d e =
    by_verdict (λ (o : Outcome). numbers_to d.session.live.given ++ accepts o.reports ≡ numbers_to o.day.session.live.given) d e
    (λ k. act-counts d e)
    (λ r. append-nil (numbers_to d.session.live.given))

pub outcome-tells : (d : Day) (e : Event) (l : Listener) → KnowsOf d.session.settings l d.session →
    TellsOf d.session.settings l (outcome d e).reports (outcome d e).day.session
outcome-tells d e l m =
    by_verdict (λ (o : Outcome). TellsOf d.session.settings l o.reports o.day.session) d e
    (λ k. act-tells d e l k.whole (leb-true d.session.clock.time e.time k.forward) m)
    (λ r. none-tells d.session.settings (known_of d.session) l m)

-- NO MORE SLAB REPORTS THAN WIDENINGS,
pub outcome_widens : (d : Day) (e : Event) → slabs_told (outcome d e).reports + d.session.clock.widened ≤ (outcome d e).day.session.clock.widened
unfolding total
outcome_widens d e =
    by_verdict (λ (o : Outcome). slabs_told o.reports + d.session.clock.widened ≤ o.day.session.clock.widened) d e (λ k. act_widens d e) (λ r. omega arith)

-- and the band is widened once at most
pub outcome_once : (d : Day) (e : Event) → d.session.clock.widened ≤ 1 → (outcome d e).day.session.clock.widened ≤ 1
outcome_once d e h =
    by_verdict (λ (o : Outcome). o.day.session.clock.widened ≤ 1) d e (λ k. (sound-day (act d e).day (act_stays d e k)).parts.timed.once) (λ r. h)

pub outcome-settings : (d : Day) (e : Event) → (outcome d e).day.session.settings ≡ d.session.settings
outcome-settings d e = by_verdict (λ (o : Outcome). o.day.session.settings ≡ d.session.settings) d e (λ k. (act-moved d e).settings) (λ r. refl)

-- TIME NEVER GOES BACK
pub outcome-forward : (d : Day) (e : Event) → d.session.clock.time ≤ (outcome d e).day.session.clock.time
outcome-forward d e =
    by_verdict (λ (o : Outcome). d.session.clock.time ≤ o.day.session.clock.time) d e
    (λ k. omega (arith, (act-moved d e).time, leb-true d.session.clock.time e.time k.forward))
    (λ r. le_refl d.session.clock.time)

-- THE REPORTS FIT THE ROOM
pub outcome-few : (d : Day) (e : Event) → length (outcome d e).reports ≤ reports_most
outcome-few d e = by_verdict (λ (o : Outcome). length o.reports ≤ reports_most) d e (λ k. act-few d e k.whole) (λ r. omega arith)

-- EVERY NUMBER IN A REPORT CAN BE WRITTEN, given that the session's array holds ten prices,
pub outcome-small : (d : Day) (e : Event) → length d.session.tape.prices ≡ 10 → SmallReports (outcome d e).reports
unfolding SmallReports
outcome-small d e l = by_verdict (λ (o : Outcome). SmallReports o.reports) d e (λ k. act-small d e k l) (λ r. tt)

-- and it holds ten after the event too
pub outcome_ten : (d : Day) (e : Event) → Ten d.session → Ten (outcome d e).day.session
outcome_ten d e t = by_verdict (λ (o : Outcome). Ten o.day.session) d e (λ k. act_ten d e t) (λ r. t)

-- ---- the number of an order

-- an accepted order has the next number, and asks for its lots under it
pub accepted-asks : (d : Day) (t : ℕ) (n : Entry) → (outcome d (record { time = t; act = Enter n })).verdict ≡ Ok tt →
    (asked_by (d.session.live.given + 1) (Enter n) (outcome d (record { time = t; act = Enter n })).reports ≡ n.lots)
    × ((outcome d (record { time = t; act = Enter n })).day.session.live.given ≡ d.session.live.given + 1)
accepted-asks d t n =
    let e : Event = record { time = t; act = Enter n } in
    let id : ℕ = d.session.live.given + 1 in
    by_verdict (λ (o : Outcome). o.verdict ≡ Ok tt → (asked_by id (Enter n) o.reports ≡ n.lots) × (o.day.session.live.given ≡ id)) d e
    (λ k h. (act-asks id d e ∙ mine-own id n.lots, act-given d e))
    (λ r h. absurd (let z : ◌≡◌ {A = ℕ} 0 1 = cc in omega arith))

-- and its one report of acceptance tells that number
pub accepted-number : (d : Day) (t : ℕ) (n : Entry) → (outcome d (record { time = t; act = Enter n })).verdict ≡ Ok tt →
    accepts (outcome d (record { time = t; act = Enter n })).reports ≡ (d.session.live.given + 1) ∷ []
unfolding numbers_to
accepted-number d t n h =
    let e : Event = record { time = t; act = Enter n } in
    let given : ℕ = d.session.live.given in
    append_cancel_left (numbers_to given) (accepts (outcome d e).reports) ((given + 1) ∷ [])
    (outcome-counts d e ∙ ap numbers_to (accepted-asks d t n h).1 ∙ rw (add-one given))

-- numbers are never taken back
given_grows : (given : ℕ) (n : Option Entry) → given ≤ option_map_or (λ n. given + 1) n given
given_grows given None = le_refl given
given_grows given (Some n) = omega arith

pub outcome-given : (d : Day) (e : Event) → d.session.live.given ≤ (outcome d e).day.session.live.given
outcome-given d e =
    by_verdict (λ (o : Outcome). d.session.live.given ≤ o.day.session.live.given) d e
    (λ k. omega (arith, act-given d e, given_grows d.session.live.given (carries e.act).entry))
    (λ r. le_refl d.session.live.given)

-- a number that was given before is not asked for again,
pub asks_old : (id : ℕ) (d : Day) (e : Event) → id ≤ d.session.live.given → asked_by id e.act (outcome d e).reports ≡ 0
unfolding total
asks_old id d e h =
    by_verdict (λ (o : Outcome). asked_by id e.act o.reports ≡ 0) d e
    (λ k. act-asks id d e ∙ mine-other id (d.session.live.given + 1) (wanted e.act) (λ z. omega arith))
    (λ r. refl)

asked_new : (id given : ℕ) (n : Option Entry) → option_map_or (λ n. given + 1) n given < id → mine id (given + 1) (option_map_or (λ n. n.lots) n 0) ≡ 0
asked_new id given None h = mine-zero id (given + 1)
asked_new id given (Some n) h = mine-other id (given + 1) n.lots (λ z. omega arith)

-- and one that is not given yet is not asked for
pub asks_new : (id : ℕ) (d : Day) (e : Event) → (outcome d e).day.session.live.given < id → asked_by id e.act (outcome d e).reports ≡ 0
unfolding total
asks_new id d e =
    by_verdict (λ (o : Outcome). o.day.session.live.given < id → asked_by id e.act o.reports ≡ 0) d e
    (λ k h. act-asks id d e ∙ asked_new id d.session.live.given (carries e.act).entry (omega (arith, act-given d e)))
    (λ r h. refl)
