-- A clock line changes no trade: a day and the same day after a clock event answer every later event alike, and afterwards are the same day
-- or are both closed. The proof rests on two steps of time being one.
use Prim.Native.Nat.{ℕ, ◌≤◌}
use native.Mathlib.Omega.{arith}
use borrow.Author.Tests.{leb-true, le-leb}
use mathlib.Core.Path.{◌≡◌, refl, sym, ap, ◌∙◌}
use mathlib.Core.Bool.{true, not}
use mathlib.Core.List.{List, [], ◌∷◌, ◌++◌, append_assoc}
use lib.ListN.{length}
use Rattle.std.specs.Prelude.{Ok, Err}
use Rattle.terms.specs.declared.Band.{Band}
use Rattle.terms.specs.declared.Order.{Order}
use Rattle.terms.specs.declared.Event.{Event}
use Rattle.terms.specs.declared.Act.{Act}
use Rattle.terms.specs.declared.Report.{Report}
use Rattle.terms.specs.declared.Said.TheVariants.{Slab}
use Rattle.terms.specs.declared.Refusal.TheVariants.{Unsound, Closed, NumberRange, TimeBack, OutOfHours, OffTick, OutsideBand, NotResting, SideFull, DayFull}
use Rattle.terms.specs.Truth.{◌⊓◌}
use Rattle.terms.specs.Numbers.{is_time}
use Rattle.terms.specs.Refusals.{Verdict, unless, first_failed}
use Rattle.terms.proofs.Logic.{cases}
use Rattle.terms.specs.Sizes.{sizes}
use Rattle.state_law.specs.declared.Session.{Session}
use Rattle.state_law.specs.Set.{set_buys, set_sells}
use Rattle.state_law.specs.Now.{band_now}
use Rattle.state_law.specs.Clock.{clock_step}
use Rattle.state_law.specs.Day.{Day, opened, day_by}
use Rattle.state_law.proofs.Steps.{clock_twice}
use Rattle.soundness_law.specs.Sound.{sound}
use Rattle.soundness_law.proofs.Days.{SoundDay, sound-day}
use Rattle.terms.specs.Carried.{carries}
use Rattle.refusal_law.specs.Refusals.{numbers_right, in_hours, ticks_right, band_right, finds, life_has_place, has_place, has_numbers, refusal_of}
use Rattle.refusal_law.proofs.Carried.{any_same}
use Rattle.refusal_law.proofs.Accepted.{Accepted, accepted, closed_refused}
use Rattle.acts_law.specs.Acts.{Acted, slab_report, clock_reports, silent, finished, and_then, stepped, timed, does, act}
use Rattle.acts_law.proofs.Does.{ends, own_by, act-closes, act-goes, closing}
use Rattle.acts_law.proofs.Pieces.{EachTold, clock_each}
use Rattle.acts_law.proofs.Stays.{act_stays}
use Rattle.engine_law.specs.Outcome.{Outcome, decided, outcome, after, told}
use Rattle.engine_law.proofs.Kept.{outcome-verdict, accepted-sound}
use Rattle.engine_law.proofs.Joined.{told-append}
use Rattle.promises.specs.ClockLine.{clock_at, plain_one, plain, Reply, replies, From, ClockLine}

-- ---- the day after an accepted clock event, called the ticked day

abbrev ticked : Day → ℕ → Day
ticked d t = (stepped d t).day

-- setting the live counts of a sound day to the numbers of its orders changes nothing
counted_same : (d : Day) (t a b : ℕ) → d.session.live.buys ≡ a → d.session.live.sells ≡ b →
    set_sells (set_buys (clock_step d.session t) a) b ≡ clock_step d.session t
unfolding clock_step
counted_same d t a b e f = λ i. set_sells (set_buys (clock_step d.session t) (sym e i)) (sym f i)

decided-fine : (v : Verdict) (d : Day) (a : Acted) → v ≡ Ok tt → decided v d a ≡ decided (Ok tt) d a
decided-fine v d a e = rw e

clock_day : (d : Day) (t : ℕ) → refusal_of d (clock_at t) ≡ Ok tt → (outcome d (clock_at t)).day ≡ ticked d t
unfolding outcome act
clock_day d t h =
    let w : SoundDay d = sound-day d (accepted d (clock_at t) h).whole in
    ap (λ (o : Outcome). o.day) (decided-fine (refusal_of d (clock_at t)) d (act d (clock_at t)) h)
    ∙ (λ i. record {
      session = counted_same d t (length d.buys) (length d.sells) w.buys-counted w.sells-counted i;
      buys = d.buys;
      sells = d.sells;
    })

-- ---- reports without slab and ref

plain-append : (xs ys : List Report) → plain (xs ++ ys) ≡ plain xs ++ plain ys
unfolding plain
plain-append [] ys = refl
plain-append (x ∷ xs) ys =
    ap (λ (l : List Report). plain_one x x.said ++ l) (plain-append xs ys)
    ∙ sym (append_assoc (plain_one x x.said) (plain xs) (plain ys))

plain-none : (rs : List Report) → EachTold (λ r. plain_one r r.said ≡ []) rs → plain rs ≡ []
unfolding plain EachTold
plain-none [] h = refl
plain-none (r ∷ rs) h = λ i. (h.0 i) ++ (plain-none rs h.1 i)

slab_plain : (r : Report) (band : Band) → plain_one r (Slab band) ≡ []
slab_plain r band = refl

clock_plain : (s s' : Session) → plain (clock_reports s s') ≡ []
clock_plain s s' = plain-none (clock_reports s s') (clock_each _ s s' (slab_plain (slab_report s') (band_now s')) refl)

after-plain : (d : Day) (t : ℕ) (a : Acted) → plain (and_then (stepped d t) a).reports ≡ plain a.reports
after-plain d t a =
    let s : Session = d.session in
    plain-append (clock_reports s (clock_step s t)) a.reports ∙ ap (λ (l : List Report). l ++ plain a.reports) (clock_plain s (clock_step s t))

-- ---- one event, on a day and on the ticked day

place-ticked : (d : Day) (t : ℕ) (a : Act) → has_place sizes (ticked d t) a ≡ has_place sizes d a
unfolding has_place
place-ticked d t a = any_same _ _ (λ n. ap (λ (l : List Order). life_has_place sizes n.life (length l)) (own_by n.side (clock_step d.session t) d)) (carries a).entry

-- what follows from an accepted clock event: both days are sound, and the event is not before the last accepted time
record Ticks (d : Day) (t : ℕ) : Type 0 where
  whole : sound d ≡ true
  then_whole : sound (ticked d t) ≡ true
  forward : d.session.clock.time ≤ t

ticks : (d : Day) (t : ℕ) → refusal_of d (clock_at t) ≡ Ok tt → Ticks d t
ticks d t h =
    let a : Accepted d (clock_at t) = accepted d (clock_at t) h in
    record {
      whole = a.whole;
      then_whole = rw (clock_day d t h) at (accepted-sound d (clock_at t) (outcome-verdict d (clock_at t) ∙ h));
      forward = leb-true d.session.clock.time t a.forward;
    }

-- every row of the table of refusals says the same of both days
refusal-ticked : (d : Day) (t : ℕ) (e : Event) → Ticks d t → t ≤ e.time → refusal_of (ticked d t) e ≡ refusal_of d e
unfolding refusal_of clock_step finds
refusal-ticked d t e k h =
    λ i. first_failed (
    unless Unsound ((k.then_whole ∙ sym k.whole) i)
    ∷ unless Closed (not d.session.clock.closed)
    ∷ unless NumberRange (is_time e.time ⊓ numbers_right e.act)
    ∷ unless TimeBack ((le-leb t e.time h ∙ sym (le-leb d.session.clock.time e.time (omega (arith, k.forward)))) i)
    ∷ unless OutOfHours (in_hours e.act e.time d.session.settings.length)
    ∷ unless OffTick (ticks_right d.session.settings.tick e.act)
    ∷ unless OutsideBand (band_right (band_now (clock_twice d.session t e.time k.forward h i)) e.act)
    ∷ unless NotResting (finds d e.act)
    ∷ unless SideFull (place-ticked d t e.act i)
    ∷ unless DayFull (has_numbers sizes d.session.live.given d.session.tape.trades e.act)
    ∷ [])

-- ---- what the act does on both

-- after further clock steps both are the same day
ticked_twice : (d : Day) (t u : ℕ) → d.session.clock.time ≤ t → t ≤ u → ticked (ticked d t) u ≡ ticked d u
ticked_twice d t u k h = ap (λ (s : Session). day_by s d) (clock_twice d.session t u k h)

-- a close reports the same cancels and the same prices on both
ends-ticked : (d : Day) (t u settle : ℕ) → (ends (timed (ticked d t) u).day settle).reports ≡ (ends (timed d u).day settle).reports
unfolding finished clock_step
ends-ticked d t u settle = refl

act-plain : (d : Day) (t : ℕ) (e : Event) → Ticks d t → t ≤ e.time → plain (act (ticked d t) e).reports ≡ plain (act d e).reports
act-plain d t e k h =
    cases (carries e.act).closes
    (λ c. let f = closing d e.act c in
    rw (act-closes (ticked d t) e c, act-closes d e c, f.1) (ap plain (ends-ticked d t e.time f.0)))
    (λ c. rw (act-goes (ticked d t) e c, act-goes d e c)
    (after-plain (ticked d t) e.time (does (ticked (ticked d t) e.time) e.act)
    ∙ ap (λ (x : Day). plain (does x e.act).reports) (ticked_twice d t e.time k.forward h)
    ∙ sym (after-plain d e.time (does (ticked d e.time) e.act))))

decided-plain : (v : Verdict) (d d' : Day) (a a' : Acted) → plain a.reports ≡ plain a'.reports →
    plain (decided v d a).reports ≡ plain (decided v d' a').reports
decided-plain (Ok _) d d' a a' e = e
decided-plain (Err r) d d' a a' e = refl

outcome-plain : (d : Day) (t : ℕ) (e : Event) → Ticks d t → t ≤ e.time → plain (outcome (ticked d t) e).reports ≡ plain (outcome d e).reports
unfolding outcome
outcome-plain d t e k h =
    rw (refusal-ticked d t e k h) (decided-plain (refusal_of d e) (ticked d t) d (act (ticked d t) e) (act d e) (act-plain d t e k h))

-- ---- all events that follow

-- two closed days answer alike: every event is refused with 3
closed_replies : (d d' : Day) (es : List Event) → sound d ≡ true → sound d' ≡ true → d.session.clock.closed ≡ true → d'.session.clock.closed ≡ true →
    replies d' es ≡ replies d es
unfolding replies outcome
closed_replies d d' [] h h' c c' = refl
closed_replies d d' (e ∷ es) h h' c c' =
    rw (closed_refused d e h c, closed_refused d' e h' c')
    (ap (λ (l : List Reply). record { verdict = Err Closed; reports = plain [] } ∷ l) (closed_replies d d' es h h' c c'))

close_closed : (d : Day) (e : Event) → (carries e.act).closes ≡ true → (act d e).day.session.clock.closed ≡ true
unfolding finished
close_closed d e c = rw (act-closes d e c, (closing d e.act c).1) refl

-- after an accepted event both are the same day, or both are closed
act-replies : (d : Day) (t : ℕ) (e : Event) (es : List Event) → Ticks d t → t ≤ e.time → Accepted d e → Accepted (ticked d t) e →
    replies (act (ticked d t) e).day es ≡ replies (act d e).day es
act-replies d t e es k h x y =
    cases (carries e.act).closes
    (λ c. closed_replies _ _ es (act_stays d e x) (act_stays (ticked d t) e y) (close_closed d e c) (close_closed (ticked d t) e c))
    (λ c. rw (act-goes (ticked d t) e c, act-goes d e c)
    (ap (λ (z : Day). replies (does z e.act).day es) (ticked_twice d t e.time k.forward h)))

decided-replies : (v : Verdict) (d d' : Day) (a a' : Acted) (es : List Event) → (v ≡ Ok tt → replies a.day es ≡ replies a'.day es) →
    replies d es ≡ replies d' es → replies (decided v d a).day es ≡ replies (decided v d' a').day es
decided-replies (Ok _) d d' a a' es f e = f refl
decided-replies (Err r) d d' a a' es f e = e

rest-replies : (d : Day) (t : ℕ) (e : Event) (es : List Event) → Ticks d t → t ≤ e.time → replies (ticked d t) es ≡ replies d es →
    replies (outcome (ticked d t) e).day es ≡ replies (outcome d e).day es
unfolding outcome
rest-replies d t e es k h same =
    let r : refusal_of (ticked d t) e ≡ refusal_of d e = refusal-ticked d t e k h in
    rw r
    (decided-replies (refusal_of d e) (ticked d t) d (act (ticked d t) e) (act d e) es
    (λ z. act-replies d t e es k h (accepted d e z) (accepted (ticked d t) e (r ∙ z)))
    same)

run-replies : (d : Day) (t : ℕ) (es : List Event) → Ticks d t → From t es → replies (ticked d t) es ≡ replies d es
unfolding replies
run-replies d t [] k f = refl
run-replies d t (e ∷ es) k f =
    let verdict : (outcome (ticked d t) e).verdict ≡ (outcome d e).verdict =
    outcome-verdict (ticked d t) e ∙ refusal-ticked d t e k f.0 ∙ sym (outcome-verdict d e) in
    let said : plain (outcome (ticked d t) e).reports ≡ plain (outcome d e).reports = outcome-plain d t e k f.0 in
    let next : replies (outcome (ticked d t) e).day es ≡ replies (outcome d e).day es =
    rest-replies d t e es k f.0 (run-replies d t es k f.1) in
    λ i. record { verdict = verdict i; reports = said i } ∷ next i

-- the replies agree, from any day on which the clock event is accepted
pub clock_changes_nothing : (d : Day) (t : ℕ) (es : List Event) → (outcome d (clock_at t)).verdict ≡ Ok tt → From t es →
    replies (outcome d (clock_at t)).day es ≡ replies d es
clock_changes_nothing d t es h f =
    let z : refusal_of d (clock_at t) ≡ Ok tt = sym (outcome-verdict d (clock_at t)) ∙ h in
    ap (λ (x : Day). replies x es) (clock_day d t z) ∙ run-replies d t es (ticks d t z) f

pub clock_line : ClockLine
clock_line g before later t h f = clock_changes_nothing (after (opened g) before) t later h f

-- ---- the same of all that is reported

-- all reports of a run of replies
said : List Reply → List Report
said [] = []
said (r ∷ rs) = r.reports ++ said rs

told-plain : (d : Day) (es : List Event) → plain (told d es) ≡ said (replies d es)
unfolding told replies plain said
told-plain d [] = refl
told-plain d (e ∷ es) =
    plain-append (outcome d e).reports (told (outcome d e).day es)
    ∙ ap (λ (l : List Report). plain (outcome d e).reports ++ l) (told-plain (outcome d e).day es)

-- an accepted clock event reports slab and ref at most
clock_says : (d : Day) (t : ℕ) → (outcome d (clock_at t)).verdict ≡ Ok tt → plain (outcome d (clock_at t)).reports ≡ []
unfolding outcome act plain
clock_says d t h =
    let z : refusal_of d (clock_at t) ≡ Ok tt = sym (outcome-verdict d (clock_at t)) ∙ h in
    ap (λ (o : Outcome). plain o.reports) (decided-fine (refusal_of d (clock_at t)) d (act d (clock_at t)) z)
    ∙ after-plain d t (silent (clock_step d.session t) d)

pub clock_unheard : (d : Day) (before later : List Event) (t : ℕ) → (outcome (after d before) (clock_at t)).verdict ≡ Ok tt → From t later →
    plain (told d (before ++ (clock_at t ∷ later))) ≡ plain (told d (before ++ later))
unfolding told
clock_unheard d before later t h f =
    let n : Day = after d before in
    let c : Outcome = outcome n (clock_at t) in
    let clock : plain (c.reports ++ told c.day later) ≡ plain (told c.day later) =
    plain-append c.reports (told c.day later) ∙ ap (λ (l : List Report). l ++ plain (told c.day later)) (clock_says n t h) in
    let same : plain (told c.day later) ≡ plain (told n later) =
    told-plain c.day later ∙ ap said (clock_changes_nothing n t later h f) ∙ sym (told-plain n later) in
    ap plain (told-append d before (clock_at t ∷ later))
    ∙ plain-append (told d before) (c.reports ++ told c.day later)
    ∙ ap (λ (l : List Report). plain (told d before) ++ l) (clock ∙ same)
    ∙ sym (plain-append (told d before) (told n later))
    ∙ sym (ap plain (told-append d before later))
