-- What each accepted event leaves is what the definition says, given what its calls leave.
use Prim.Native.Nat.{ℕ, ◌/◌}
use native.Mathlib.Omega.{arith}
use mathlib.Core.Path.{◌≡◌, refl, sym, ap, ◌∙◌}
use mathlib.Core.Bool.{true}
use mathlib.Core.List.{List, [], append-nil}
use lib.ListN.{length}
use Rattle.std.specs.Prelude.{Ok}
use Rattle.terms.specs.declared.Act.{Act}
use Rattle.terms.specs.declared.Act.TheVariants.{Withdraw, Under, Clock, Finish}
use Rattle.terms.specs.declared.Event.{Event}
use Rattle.terms.specs.declared.Order.{Order}
use Rattle.tables.specs.Lengths.{record_length}
use Rattle.terms.proofs.Logic.{cases}
use Rattle.tables.specs.Tables.{decode, table_of}
use Rattle.tables.proofs.Slots.{length-decode}
use Rattle.book_law.specs.Priority.{rests, removed}
use Rattle.state_law.specs.declared.Session.{Session}
use Rattle.state_law.specs.Set.{set_under, set_time, set_closed}
use Rattle.state_law.specs.code.Tens.{Ten}
use Rattle.state_law.specs.Clock.{clock_step}
use Rattle.state_law.specs.Day.{day_of}
use Rattle.soundness_law.specs.Sound.{day_in}
use Rattle.soundness_law.proofs.Clocked.{steady}
use Rattle.soundness_law.proofs.Border.{sound-session}
use Rattle.refusal_law.specs.Refusals.{finds}
use Rattle.acts_law.specs.Acts.{Acted, clock_reports, act, dropped, finished}
use Rattle.acts_law.specs.code.Written.{Written, Finishing, ClosedAs}
use Rattle.acts_law.specs.declared.Withdrawn.{Withdrawn}
use Rattle.acts_law.proofs.Reports.{written_then}
use Rattle.engine_law.specs.declared.Applied.{Applied}
use Rattle.engine_law.specs.declared.Begun.{Begun}
use Rattle.engine_law.specs.Calls.{event_at, Ready, ActedAs}
use Rattle.engine_law.specs.code.Steps.{done_at, Begins, BegunAs, QuietAs, Withdrawing, CancelledAs}
use Rattle.engine_law.proofs.Starts.{accepts, begins, after-buys, after-sells, same-room, behind_clock, clock_space}

-- ---- the answer to every act

pub done_as : (a : Acted) (s : Session) (bs ss : List Order) (nbuys nsells at : ℕ) (buys sells room buys' sells' room' : List ℕ) →
    a.day ≡ day_of s bs ss → nbuys ≡ length bs → nsells ≡ length ss → buys' ≡ table_of bs buys → sells' ≡ table_of ss sells → Written room 0 a.reports room' at →
    ActedAs a buys sells room buys' sells' room' (done_at s nbuys nsells at)
done_as a s bs ss nbuys nsells at buys sells room buys' sells' room' d b c t u w =
    let k : at / record_length ≡ length a.reports = omega (arith, w.behind) in
    record {
      answer = ap Ok k;
      session = rw (d, b, c);
      bought = rw d t;
      sold = rw d u;
      told = w.laid;
    }

-- ---- under and clock

quiet_done : {s : Session} {t u : ℕ} (a : Act) {buys sells room buys₁ sells₁ room₁ : List ℕ} {r : Applied} → QuietAs s t u buys sells room buys₁ sells₁ room₁ r →
    (act (day_in s buys sells) (event_at t a)).day ≡ day_of (set_under (clock_step s t) u) (decode s.live.buys buys) (decode s.live.sells sells) →
    (act (day_in s buys sells) (event_at t a)).reports ≡ clock_reports s (clock_step s t) →
    ActedAs (act (day_in s buys sells) (event_at t a)) buys sells room buys₁ sells₁ room₁ r
quiet_done {s} {t} {u} a {buys} {sells} {room} {buys₁} {sells₁} {room₁} q day told =
    let k = q.began in
    let b : Begun = q.begun in
    rw q.answer
    (done_as (act (day_in s buys sells) (event_at t a)) (set_under b.session u) (decode s.live.buys buys) (decode s.live.sells sells) s.live.buys s.live.sells b.at buys sells room buys₁ sells₁ room₁
    (day ∙ ap (λ (x : Session). day_of (set_under x u) (decode s.live.buys buys) (decode s.live.sells sells)) (sym k.session))
    (sym (length-decode s.live.buys buys))
    (sym (length-decode s.live.sells sells))
    k.stepped.bought
    k.stepped.sold
    (rw (told, ← k.session) k.stepped.told))

module _ (s : Session) (e : Event) {buys sells room buys₁ sells₁ room₁ : List ℕ} {r : Applied} where
  pub under_acted : {price : ℕ} → e.act ≡ Under price → QuietAs s e.time price buys sells room buys₁ sells₁ room₁ r →
      ActedAs (act (day_in s buys sells) e) buys sells room buys₁ sells₁ room₁ r
  unfolding act clock_step
  under_acted h q = rw h (quiet_done (Under _) q refl (append-nil (clock_reports s (clock_step s e.time))))

  pub clock_acted : e.act ≡ Clock → QuietAs s e.time s.clock.under buys sells room buys₁ sells₁ room₁ r →
      ActedAs (act (day_in s buys sells) e) buys sells room buys₁ sells₁ room₁ r
  unfolding act clock_step
  clock_acted h q = rw h (quiet_done Clock q refl (append-nil (clock_reports s (clock_step s e.time))))

-- neither closes the day, so both begin with the clock steps
pub under_begins : {s : Session} {t price : ℕ} {a : Act} {buys sells room : List ℕ} → Ready s t a buys sells room → a ≡ Under price → Begins s t buys sells room
under_begins r h = begins r (rw h)

pub clock_begins : {s : Session} {t : ℕ} {a : Act} {buys sells room : List ℕ} → Ready s t a buys sells room → a ≡ Clock → Begins s t buys sells room
clock_begins r h = begins r (rw h)

-- ---- a cancel

module _ {s : Session} {t number : ℕ} {buys sells room buys₁ sells₁ room₁ : List ℕ} {b : Begun} (k : BegunAs s t buys sells room buys₁ sells₁ room₁ b) where
  pub cancel-asks : Ready s t (Withdraw number) buys sells room → Withdrawing number s.live.buys buys₁ s.live.sells sells₁ room₁ b.at
  unfolding finds
  cancel-asks r =
      record {
        holds_buys = (after-buys k).holds;
        holds_sells = (after-sells k).holds;
        space = omega (arith, behind_clock k, same-room k, r.room_long);
        rests = record { somewhere = rw ((after-buys k).reads, (after-sells k).reads) (accepts r).found };
      }

  -- the cancel leaves what the definition says, whichever side the order rests on
  pub cancel_acted : {buys₂ sells₂ room₂ : List ℕ} {a : Applied} → CancelledAs number t b.session s.live.buys buys₁ s.live.sells sells₁ room₁ b.at buys₂ sells₂ room₂ a →
      ActedAs (act (day_in s buys sells) (event_at t (Withdraw number))) buys sells room buys₂ sells₂ room₂ a
  unfolding act dropped clock_step
  cancel_acted {buys₂} {sells₂} {room₂} c =
      let w : Withdrawn = c.cancel in
      let v = rw ((after-buys k).reads, (after-sells k).reads) at c.withdrawn in
      rw c.answer
      (cases (rests number (decode s.live.buys buys))
      (λ z. done_as (act (day_in s buys sells) (event_at t (Withdraw number))) b.session (removed number (decode s.live.buys buys)) (decode s.live.sells sells) w.buys w.sells w.at buys sells room buys₂ sells₂ room₂
      (rw (z, k.session)) (rw z at v.nbuys) (rw z at v.nsells) ((rw z at v.bought) ∙ (after-buys k).past _) ((rw z at v.sold) ∙ (after-sells k).past _)
      (rw (z, ← k.session) (written_then room 0 (clock_reports s b.session) room₁ b.at _ room₂ w.at k.stepped.told (rw z at v.told) (clock_space k))))
      (λ z. done_as (act (day_in s buys sells) (event_at t (Withdraw number))) b.session (decode s.live.buys buys) (removed number (decode s.live.sells sells)) w.buys w.sells w.at buys sells room buys₂ sells₂ room₂
      (rw (z, k.session)) (rw z at v.nbuys) (rw z at v.nsells) ((rw z at v.bought) ∙ (after-buys k).past _) ((rw z at v.sold) ∙ (after-sells k).past _)
      (rw (z, ← k.session) (written_then room 0 (clock_reports s b.session) room₁ b.at _ room₂ w.at k.stepped.told (rw z at v.told) (clock_space k)))))

-- ---- the close

module _ {s : Session} {t settle : ℕ} {buys sells room : List ℕ} where
  pub finishes : Ready s t (Finish settle) buys sells room → Ten s → Finishing s buys sells room
  finishes r ten =
      record {
        steady = steady s ten.prices ten.sizes (sound-session (day_in s buys sells) (accepts r).whole);
        buys_long = r.buys_long;
        sells_long = r.sells_long;
        room_long = omega (arith, r.room_long);
      }

  pub closed_done : {buys' sells' room' : List ℕ} {at : ℕ} {s' : Session} {a : Applied} →
      ClosedAs s t settle (decode s.live.buys buys) (decode s.live.sells sells) buys sells room buys' sells' room' at →
      s' ≡ set_closed (set_time s t) true → a ≡ done_at s' 0 0 at →
      ActedAs (act (day_in s buys sells) (event_at t (Finish settle))) buys sells room buys' sells' room' a
  unfolding act finished
  closed_done {buys'} {sells'} {room'} {at} f e d =
      rw (d, e)
      (done_as (act (day_in s buys sells) (event_at t (Finish settle))) (set_closed (set_time s t) true) [] [] 0 0 at buys sells room buys' sells' room'
      refl refl refl f.bought f.sold f.told)

-- ---- an event by its act

module _ (s : Session) (e : Event) {a : Act} (h : e.act ≡ a) {buys sells room : List ℕ} where
  pub ready_by : Ready s e.time e.act buys sells room → Ready s e.time a buys sells room
  ready_by r = rw h at r

  pub acted_by : {buys' sells' room' : List ℕ} {r : Applied} → ActedAs (act (day_in s buys sells) (event_at e.time a)) buys sells room buys' sells' room' r →
      ActedAs (act (day_in s buys sells) e) buys sells room buys' sells' room' r
  acted_by k = rw h k
