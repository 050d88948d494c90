-- How a law of events is proved piece by piece: first what comes before the act, then the act, which is an order, a cancel, a change of
-- the session alone, or the close.
use Prim.Native.Nat.{ℕ}
use mathlib.Core.Path.{◌≡◌, refl, ap}
use mathlib.Core.Bool.{Bool, true, false}
use Rattle.std.specs.Prelude.{None}
use Rattle.terms.specs.declared.Act.{Act}
use Rattle.terms.specs.declared.Act.TheVariants.{Enter, Withdraw, Under, Clock, Finish}
use Rattle.terms.specs.declared.Entry.{Entry}
use Rattle.terms.specs.declared.Event.{Event}
use Rattle.terms.specs.declared.Side.{Side}
use Rattle.terms.specs.declared.Side.TheVariants.{Buy, Sell}
use Rattle.terms.proofs.Logic.{by, no_both}
use Rattle.state_law.specs.declared.Session.{Session}
use Rattle.state_law.specs.Set.{set_under}
use Rattle.state_law.specs.Clock.{clock_step}
use Rattle.state_law.specs.Day.{Day, own, across, day_by}
use Rattle.terms.specs.Carried.{carries}
use Rattle.acts_law.specs.Acts.{Acted, sweep_in, entered, withdrawn, silent, finished, and_then, stepped, timed, does, act}

-- ---- an act that tells nothing and moves no order

-- the session that such an act makes
pub data Sets (s : Session) : Act → Session → Type 0 where
  sets_under : (price : ℕ) → Sets s (Under price) (set_under s price)
  sets_none : Sets s Clock s

-- such an act carries no order, does not close the day, and leaves these parts of the session as they are
pub record Alike (s : Session) (a : Act) (s' : Session) : Type 0 where
  pub entry : (carries a).entry ≡ None
  pub stays : (carries a).closes ≡ false
  pub settings : s'.settings ≡ s.settings
  pub time : s'.clock.time ≡ s.clock.time
  pub closed : s'.clock.closed ≡ s.clock.closed
  pub widened : s'.clock.widened ≡ s.clock.widened
  pub reckoning : s'.reckoning ≡ s.reckoning
  pub given : s'.live.given ≡ s.live.given
  pub tape : s'.tape ≡ s.tape

pub sets_alike : {s s' : Session} {a : Act} → Sets s a s' → Alike s a s'
sets_alike (sets_under price) =
    record { entry = refl; stays = refl; settings = refl; time = refl; closed = refl; widened = refl; reckoning = refl; given = refl; tape = refl }
sets_alike sets_none =
    record { entry = refl; stays = refl; settings = refl; time = refl; closed = refl; widened = refl; reckoning = refl; given = refl; tape = refl }

-- ---- the acts

abbrev pub enters : Day → Entry → Acted
enters d n = entered d.session n (own n.side d) (sweep_in d.session n (across n.side d))

abbrev pub ends : Day → ℕ → Acted
ends d settle = finished d.session d.session.clock.time settle d.buys d.sells

-- a property of what an act does is proved act by act
pub does_by : (P : Acted → Type 0) (d : Day) (a : Act) →
    ((n : Entry) → a ≡ Enter n → P (enters d n)) →
    ((number : ℕ) → a ≡ Withdraw number → P (withdrawn d number)) →
    ((s : Session) → Sets d.session a s → P (silent s d)) →
    ((settle : ℕ) → a ≡ Finish settle → P (ends d settle)) →
    P (does d a)
does_by P d (Enter n) e w q f = e n refl
does_by P d (Withdraw number) e w q f = w number refl
does_by P d (Under price) e w q f = q _ (sets_under price)
does_by P d Clock e w q f = q _ sets_none
does_by P d (Finish settle) e w q f = f settle refl

-- ---- a day with another session has the same orders

pub own_by : (side : Side) (s : Session) (d : Day) → own side (day_by s d) ≡ own side d
own_by Buy s d = refl
own_by Sell s d = refl

pub across_by : (side : Side) (s : Session) (d : Day) → across side (day_by s d) ≡ across side d
across_by Buy s d = refl
across_by Sell s d = refl

-- ---- an event

-- a relation of a day and what is done on it chains: if it holds of two things done one after the other, it holds of both together
abbrev pub Chains : (Day → Acted → Type 0) → Type 0
Chains R = (d : Day) (a b : Acted) → R d a → R a.day b → R d (and_then a b)

-- a property of what an event does is proved for its two courses: the time alone and then the act, or the clock steps and then the act
pub begun_by : (P : Acted → Type 0) (d : Day) (e : Event) →
    ((carries e.act).closes ≡ true → P (and_then (timed d e.time) (does (timed d e.time).day e.act))) →
    ((carries e.act).closes ≡ false → P (and_then (stepped d e.time) (does (stepped d e.time).day e.act))) →
    P (act d e)
unfolding act
begun_by P d e f g = by (λ (b : Acted). P (and_then b (does b.day e.act))) (carries e.act).closes _ _ f g

-- a relation that chains holds of an event if it holds of the time alone, of the clock steps and of the act
pub act_by_lem : (R : Day → Acted → Type 0) → Chains R → (d : Day) (e : Event) → R d (timed d e.time) → R d (stepped d e.time) →
    ((d : Day) → R d (does d e.act)) → R d (act d e)
act_by_lem R chain d e time clock doing = begun_by (R d) d e (λ h. chain d _ _ time (doing _)) (λ h. chain d _ _ clock (doing _))

-- a property of what an event does is proved act by act
pub event_by : (P : Acted → Type 0) (d : Day) (e : Event) →
    ((n : Entry) → e.act ≡ Enter n → P (and_then (stepped d e.time) (enters (stepped d e.time).day n))) →
    ((number : ℕ) → e.act ≡ Withdraw number → P (and_then (stepped d e.time) (withdrawn (stepped d e.time).day number))) →
    ((s : Session) → Sets (clock_step d.session e.time) e.act s → P (and_then (stepped d e.time) (silent s d))) →
    ((settle : ℕ) → e.act ≡ Finish settle → P (ends (timed d e.time).day settle)) →
    P (act d e)
event_by P d e f w q g =
    let ends-day : Act → Bool = λ a. (carries a).closes in
    begun_by P d e
    (λ h. does_by (λ (x : Acted). P (and_then (timed d e.time) x)) (timed d e.time).day e.act
    (λ n z. no_both (ends-day e.act) h (ap ends-day z))
    (λ number z. no_both (ends-day e.act) h (ap ends-day z))
    (λ s z. no_both (ends-day e.act) h (sets_alike z).stays)
    g)
    (λ h. does_by (λ (x : Acted). P (and_then (stepped d e.time) x)) (stepped d e.time).day e.act f w q
    (λ settle z. no_both (ends-day e.act) (ap ends-day z) h))

-- an event that closes the day is the time alone and then the act; any other is the clock steps and then the act
pub act-closes : (d : Day) (e : Event) → (carries e.act).closes ≡ true → act d e ≡ and_then (timed d e.time) (does (timed d e.time).day e.act)
act-closes d e h = begun_by (λ (x : Acted). x ≡ and_then (timed d e.time) (does (timed d e.time).day e.act)) d e (λ k. refl) (λ k. no_both _ h k)

pub act-goes : (d : Day) (e : Event) → (carries e.act).closes ≡ false → act d e ≡ and_then (stepped d e.time) (does (stepped d e.time).day e.act)
act-goes d e h = begun_by (λ (x : Acted). x ≡ and_then (stepped d e.time) (does (stepped d e.time).day e.act)) d e (λ k. no_both _ k h) (λ k. refl)

-- an act that closes the day is a close with a settlement price
pub closing : (d : Day) (a : Act) → (carries a).closes ≡ true → (settle : ℕ) × (a ≡ Finish settle)
closing d a h =
    let ends-day : Act → Bool = λ x. (carries x).closes in
    does_by (λ (x : Acted). (settle : ℕ) × (a ≡ Finish settle)) d a
    (λ n z. no_both (ends-day a) h (ap ends-day z))
    (λ number z. no_both (ends-day a) h (ap ends-day z))
    (λ s z. no_both (ends-day a) h (sets_alike z).stays)
    (λ settle z. (settle, z))
