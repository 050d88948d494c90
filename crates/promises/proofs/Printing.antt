-- What the calls print is what the definitions of days print, line by line and so for all lines.
use Prim.Native.Nat.{ℕ, zero, suc, ◌+◌, ◌-◌, ◌≤◌}
use native.Mathlib.Omega.{arith}
use mathlib.Core.Path.{◌≡◌, refl, sym, ap, ◌∙◌, subst}
use mathlib.Core.Bool.{true, cond}
use mathlib.Core.List.{List, [], ◌++◌, append_assoc, append-nil}
use lib.ListN.{length, take, drop}
use lib.Dec.{eqb}
use lib.Seq.{take-append_seam}
use borrow.Author.Tests.{leb-true}
use Rattle.std.specs.Prelude.{Ok, Err}
use Rattle.terms.specs.declared.Event.{Event}
use Rattle.terms.specs.declared.Settings.{Settings}
use Rattle.terms.specs.declared.Order.{Order}
use Rattle.terms.specs.declared.Refusal.TheVariants.{SmallRoom}
use Rattle.terms.specs.Refusals.{Verdict}
use Rattle.terms.specs.Sizes.{slots}
use Rattle.tables.specs.Lengths.{table_length, room_length}
use Rattle.terms.specs.Settings.{settings_verdict}
use Rattle.tables.specs.Records.{records_of}
use Rattle.terms.proofs.Logic.{both}
use Rattle.terms.proofs.Cascade.{fine-first}
use Rattle.tables.specs.Tables.{decode}
use Rattle.tables.proofs.Puts.{length-put}
use Rattle.tables.proofs.Whole.{length-table_of}
use Rattle.tables.proofs.Records.{length_records}
use Rattle.lines_text_law.specs.Grammar.{LineAnswer, whole, unfinished, wrong}
use Rattle.lines_reading_law.specs.Answers.{read_event, read_settings}
use Rattle.state_law.specs.Opening.{opened_by, opening_of, opened_session, fixed_session}
use Rattle.state_law.specs.Day.{Day}
use Rattle.soundness_law.specs.Sound.{day_in}
use Rattle.engine_law.specs.Outcome.{Outcome, outcome}
use Rattle.engine_law.specs.Calls.{roomy, called, table_by}
use Rattle.engine_law.proofs.Kept.{outcome-few}
use Rattle.engine_law.proofs.Left.{sides_few, outcome-day}
use Rattle.engine_law.proofs.Applies.{called-outcome}
use Rattle.feed_law.specs.declared.Run.{Run}
use Rattle.feed_law.specs.declared.Stage.{Stage}
use Rattle.feed_law.specs.Texts.{event_text}
use Rattle.feed_law.specs.Worlds.{Lent, lent_of, days, calls}
use Rattle.feed_law.specs.Turns.{Turn, Fed, fed_in, end_behind, saves_by, settings_turn, event_turn, turn_of, Says, printing, said_in, printed_from, printed}
use Rattle.feed_law.specs.Pieces.{fed_to_end}
use Rattle.feed_law.specs.Feeds.{Feed, TakenAs, feed_verdict, fed_by, fed_of, ended_of}
use Rattle.feed_law.proofs.Going.{fed_by_lem}
use Rattle.feed_law.proofs.Pieces.{pieces, end_prints_rest}
use Rattle.feed_law.proofs.Starts.{end-world}
use Rattle.promises.specs.Printed.{Holding, at_start, day_on, Piece, PieceFed, Feeding, to_print, FeedingPrints, EndPrints, ProgramPrints}
use Rattle.promises.specs.Printed.Feeding.{ends, feeds}

-- ---- the day that lent numbers hold

abbrev pub day_lent : Lent → Day
day_lent l = day_in l.session l.buys l.sells

-- tables and room are long enough
abbrev pub Long : Lent → Type 0
Long l = roomy l.buys l.sells l.room ≡ true

-- ---- an opening begins a session with no live orders

none_live : (v : Verdict) (g : Settings) → ((opened_by g v).session.live.buys ≡ 0) × ((opened_by g v).session.live.sells ≡ 0)
unfolding opened_session fixed_session
none_live (Ok _) g = (refl, refl)
none_live (Err r) g = (refl, refl)

opened-day : (g : Settings) (l : Lent) → day_lent (calls.opened l (opening_of g).session) ≡ days.opened (day_lent l) (opening_of g).session
unfolding opening_of calls days decode
opened-day g l =
    let n = none_live (settings_verdict g) g in
    rw (n.0, n.1)

-- ---- an event on lent numbers and on their day

module _ (l : Lent) (e : Event) (long : Long l) where
  abbrev o : Outcome
  o = outcome (day_lent l) e

  abbrev l' : Lent
  l' = calls.next l e

  comes_to : called l.session e l.buys l.sells l.room ≡ o
  comes_to = called-outcome l.session e l.buys l.sells l.room long

  next-day : day_lent l' ≡ days.next (day_lent l) e
  unfolding calls days
  next-day =
      outcome-day l.session l'.session l.buys l.sells l'.buys l'.sells e (ap (λ (x : Outcome). x.day.session) comes_to)
      (ap (λ (x : Outcome). table_by x.verdict x.day.buys l.buys) comes_to)
      (ap (λ (x : Outcome). table_by x.verdict x.day.sells l.sells) comes_to)

  -- it leaves tables and room long enough
  table_kept : (v : Verdict) (os : List Order) (t : List ℕ) → (v ≡ Ok tt → length os ≤ slots) → table_length ≤ length t → length (table_by v os t) ≡ length t
  table_kept (Ok _) os t f h = length-table_of os t (f refl) h
  table_kept (Err r) os t f h = refl

  all-long : (table_length ≤ length l.buys) × (table_length ≤ length l.sells) × (room_length ≤ length l.room)
  unfolding roomy
  all-long = let r = both long in let t = both r.0 in (leb-true table_length (length l.buys) t.0, leb-true table_length (length l.sells) t.1, leb-true room_length (length l.room) r.1)

  next-long : Long l'
  unfolding calls roomy
  next-long =
      let b = table_kept o.verdict o.day.buys l.buys (λ v. (sides_few (day_lent l) e v).0) all-long.0 in
      let s = table_kept o.verdict o.day.sells l.sells (λ v. (sides_few (day_lent l) e v).1) all-long.1 in
      let n = length_records o.reports in
      let m = outcome-few (day_lent l) e in
      let fit : 0 + length (records_of o.reports) ≤ length l.room = omega (arith, all-long.2) in
      let r = length-put l.room 0 (records_of o.reports) fit in
      rw (comes_to, b, s, r) long

-- ---- one line in both worlds

pub record Same (t : Turn Lent) (u : Turn Day) : Type 0 where
  pub stage : t.stage ≡ u.stage
  pub day : day_lent t.world ≡ u.world
  pub used : t.used ≡ u.used
  pub saves : t.saves ≡ u.saves
  pub text : t.text ≡ u.text
  pub long : Long t.world

settings-same : (l : Lent) → Long l → (o : LineAnswer Settings) → Same (settings_turn calls l o) (settings_turn days (day_lent l) o)
unfolding calls
settings-same l h (whole g n) = record { stage = refl; day = opened-day g l; used = refl; saves = refl; text = refl; long = h }
settings-same l h unfinished = record { stage = refl; day = refl; used = refl; saves = refl; text = refl; long = h }
settings-same l h (wrong n) = record { stage = refl; day = refl; used = refl; saves = refl; text = refl; long = h }

event-same : (l : Lent) → Long l → (o : LineAnswer Event) → Same (event_turn calls l o) (event_turn days (day_lent l) o)
unfolding calls days
event-same l h (whole e n) =
    record {
      stage = refl;
      day = next-day l e h;
      used = refl;
      saves = ap (λ (x : Outcome). saves_by x.verdict n) (comes_to l e h);
      text = ap (λ (x : Outcome). event_text e x.verdict x.reports) (comes_to l e h);
      long = next-long l e h;
    }
event-same l h unfinished = record { stage = refl; day = refl; used = refl; saves = refl; text = refl; long = h }
event-same l h (wrong n) = record { stage = refl; day = refl; used = refl; saves = refl; text = refl; long = h }

pub turn_same : (stage : Stage) (l : Lent) → Long l → (bytes : List ℕ) → Same (turn_of calls stage l bytes) (turn_of days stage (day_lent l) bytes)
turn_same Stage.Awaiting l h bytes = settings-same l h (read_settings bytes)
turn_same Stage.Trading l h bytes = event-same l h (read_event bytes)
turn_same Stage.Over l h bytes = record { stage = refl; day = refl; used = refl; saves = refl; text = refl; long = h }

-- ---- all lines in both worlds

pub same-said : {A : Type 0} (says : Says A) (n : ℕ) (stage : Stage) (l : Lent) (bytes : List ℕ) → Long l →
    said_in calls says n stage l bytes ≡ said_in days says n stage (day_lent l) bytes
unfolding said_in
same-said says zero stage l bytes h = refl
same-said {A} says (suc n) stage l bytes h =
    let t : Turn Lent = turn_of calls stage l bytes in
    let s : Same t (turn_of days stage (day_lent l) bytes) = turn_same stage l h bytes in
    ap (λ (x : List A). says.line (take t.saves bytes) t.text ++ cond (eqb t.used 0) (says.end t.stage (length bytes)) x)
    (same-said says n t.stage t.world (drop t.used bytes) s.long)
    ∙ (λ i.
    says.line (take (s.saves i) bytes) (s.text i)
    ++ cond (eqb (s.used i) 0) (says.end (s.stage i) (length bytes)) (said_in days says n (s.stage i) (s.day i) (drop (s.used i) bytes)))

pub fed_long : (left : ℕ) (stage : Stage) (l : Lent) (bytes : List ℕ) → Long l → Long (fed_in calls (length bytes) left stage l bytes).world
fed_long left stage l bytes =
    fed_by_lem calls (λ left stage l xs f. Long l → Long f.world) (λ left stage l xs e h. h) (λ left stage l xs e h. h)
    (λ left stage l xs e z h. (turn_same stage l h xs).long) (λ left stage l xs f u k h. k (turn_same stage l h xs).long) (length bytes) left stage l bytes
    (omega arith)

end-long : (left : ℕ) (stage : Stage) (l : Lent) (bytes : List ℕ) → Long l → Long (fed_to_end calls left stage l bytes).world
unfolding end_behind
end-long left stage l bytes h =
    let f : Fed Lent = fed_in calls (length bytes) left stage l bytes in
    rw (end-world calls f.stop (left - length f.text) (length bytes - f.used) f) (fed_long left stage l bytes h)

-- ---- one call of feed or end, where nothing lent is short

module _ (run : Run) (buys sells room bytes out : List ℕ) (v : feed_verdict buys sells room ≡ Ok tt) where
  fine-long : roomy buys sells room ≡ true
  unfolding feed_verdict
  fine-long = (fine-first SmallRoom (roomy buys sells room) _ v).0

  abbrev on_lent : Lent
  on_lent = lent_of run.session buys sells room

  fine_fed : fed_of run buys sells room bytes out ≡ fed_in calls (length bytes) (length out) run.stage on_lent bytes
  unfolding fed_of
  fine_fed = ap (λ (x : Verdict). fed_by x run buys sells room bytes out) v

  fine-ended : ended_of run buys sells room bytes out ≡ fed_to_end calls (length out) run.stage on_lent bytes
  unfolding ended_of
  fine-ended = ap (end_behind calls (length out) (length bytes)) fine_fed

-- what a call printed and left, given what the bytes came to
module _ (of : Feed) (h h' : Holding) (p : Piece) (text : List ℕ) (k : PieceFed of h p text h') (f : Fed Lent)
    (is : of h.run h.buys h.sells p.room (h.kept ++ p.bytes) p.out ≡ f) (long : Long f.world) where
  as_fed : TakenAs f p.out h'.buys h'.sells k.room k.out k.answered
  as_fed = subst (λ (x : Fed Lent). TakenAs x p.out h'.buys h'.sells k.room k.out k.answered) is k.contract.taken

  text_is : f.text ≡ text
  text_is =
      let c = as_fed.printed in
      sym (k.told ∙ (λ i. take (c.count i) (c.laid i)) ∙ take-append_seam f.text (drop (length f.text) p.out))

  -- what is still to be printed after the call, in terms of days
  still : (more : List ℕ) → printed_from calls f.stage f.world (drop f.used (h.kept ++ p.bytes) ++ more) ≡ to_print h' more
  still more =
      let stage : f.stage ≡ h'.run.stage = sym (ap (λ (x : Run). x.stage) k.run ∙ as_fed.stage) in
      let world : day_lent f.world ≡ day_on h' = ap day_lent (sym as_fed.world) ∙ ap (λ (x : Run). day_in x.session h'.buys h'.sells) (sym k.run) in
      let kept : drop f.used (h.kept ++ p.bytes) ≡ h'.kept = sym (k.kept ∙ ap (λ (n : ℕ). drop n (h.kept ++ p.bytes)) as_fed.used) in
      let bytes : List ℕ = drop f.used (h.kept ++ p.bytes) ++ more in
      same-said printing (length bytes) f.stage f.world bytes long ∙ (λ i. printed_from days (stage i) (world i) (kept i ++ more))

-- what was to be printed of these bytes before the call, in terms of days
beforehand : (h : Holding) (p : Piece) → feed_verdict h.buys h.sells p.room ≡ Ok tt → (more : List ℕ) →
    printed_from calls h.run.stage (lent_of h.run.session h.buys h.sells p.room) ((h.kept ++ p.bytes) ++ more) ≡ to_print h (p.bytes ++ more)
beforehand h p v more =
    let l : Lent = lent_of h.run.session h.buys h.sells p.room in
    let long : Long l = fine-long h.run h.buys h.sells p.room [] [] v in
    same-said printing (length ((h.kept ++ p.bytes) ++ more)) h.run.stage l ((h.kept ++ p.bytes) ++ more) long
    ∙ ap (printed_from days h.run.stage (day_on h)) (append_assoc h.kept p.bytes more)

handed_prints : (h h' : Holding) (p : Piece) (text : List ℕ) → PieceFed fed_of h p text h' → (more : List ℕ) → to_print h (p.bytes ++ more) ≡ text ++ to_print h' more
handed_prints h h' p text k more =
    let bytes : List ℕ = h.kept ++ p.bytes in
    let l : Lent = lent_of h.run.session h.buys h.sells p.room in
    let f : Fed Lent = fed_in calls (length bytes) (length p.out) h.run.stage l bytes in
    let is = fine_fed h.run h.buys h.sells p.room bytes p.out k.enough in
    let long : Long l = fine-long h.run h.buys h.sells p.room [] [] k.enough in
    let after : Long f.world = fed_long (length p.out) h.run.stage l bytes long in
    sym (beforehand h p k.enough more)
    ∙ pieces calls (length p.out) h.run.stage l bytes more
    ∙ (λ i. text_is fed_of h h' p text k f is after i ++ still fed_of h h' p text k f is after more i)

-- ---- so a run of calls prints what the definitions say

feeding : (h h' : Holding) (input text : List ℕ) → Feeding h input text h' → (more : List ℕ) → to_print h (input ++ more) ≡ text ++ to_print h' more
feeding h h' input text (ends _) more = refl
feeding h h'' input text (feeds _ h' _ p rest told later k r) more =
    ap (to_print h) (append_assoc p.bytes rest more)
    ∙ handed_prints h h' p told k (rest ++ more)
    ∙ ap (λ (x : List ℕ). told ++ x) (feeding h' h'' rest later r more)
    ∙ sym (append_assoc told later (to_print h'' more))

from_start : (buys sells input : List ℕ) → printed input ≡ to_print (at_start buys sells) input
unfolding printed fixed_session decode
from_start buys sells input = refl

pub feeding_prints : FeedingPrints
feeding_prints buys sells input text h r =
    from_start buys sells input ∙ ap (to_print (at_start buys sells)) (sym (append-nil input)) ∙ feeding (at_start buys sells) h input text r []

pub end_prints : EndPrints
end_prints h h' p text k =
    let bytes : List ℕ = h.kept ++ p.bytes in
    let l : Lent = lent_of h.run.session h.buys h.sells p.room in
    let f : Fed Lent = fed_to_end calls (length p.out) h.run.stage l bytes in
    let is = fine-ended h.run h.buys h.sells p.room bytes p.out k.enough in
    let long : Long l = fine-long h.run h.buys h.sells p.room [] [] k.enough in
    let after : Long f.world = end-long (length p.out) h.run.stage l bytes long in
    let end = end_prints_rest calls (length p.out) h.run.stage l bytes in
    let t = text_is ended_of h h' p text k f is after in
    let s = rw (append-nil (drop f.used bytes)) at (still ended_of h h' p text k f is after []) in
    let a = as_fed ended_of h h' p text k f is after in (
      sym (rw (append-nil (bytes), append-nil p.bytes) at (beforehand h p k.enough [])) ∙ end.0 ∙ (λ i. t i ++ s i),
      (λ went. let e = end.1 (λ x. went (a.stop ∙ x)) in (a.stop ∙ e.0, sym s ∙ e.1)),
    )

pub program_prints : ProgramPrints
program_prints buys sells input text last h h' p r k went =
    let e = end_prints h h' p last k in
    from_start buys sells (input ++ p.bytes)
    ∙ feeding (at_start buys sells) h input text r p.bytes
    ∙ ap (λ (x : List ℕ). text ++ x) (e.0 ∙ ap (λ (x : List ℕ). last ++ x) (e.1 went).1 ∙ append-nil last)
