-- What the functions of one line leave.
use Prim.Native.Nat.{ℕ, ◌-◌, ◌≤◌}
use native.Mathlib.Omega.{arith}
use native.Mathlib.Nat.{le_of_lt, le_of_eq}
use mathlib.Core.Path.{◌≡◌, refl, sym, ap, ◌∙◌, subst}
use mathlib.Core.List.{List}
use lib.ListN.{length, take, drop, length-take, length-drop}
use lib.Seq.{take_all}
use Rattle.std.specs.Prelude.{Ok, Err}
use Rattle.terms.specs.declared.Event.{Event}
use Rattle.terms.specs.declared.Refusal.{Refusal}
use Rattle.terms.specs.Refusals.{Verdict}
use Rattle.tables.specs.Tables.{table_of}
use Rattle.tables.proofs.Whole.{table_of-table_of}
use Rattle.lines_text_law.specs.Grammar.{LineAnswer, whole, unfinished, wrong}
use Rattle.lines_text_law.specs.Reading.{Right, ReadAs}
use Rattle.lines_reading_law.specs.Lines.{EventLine}
use Rattle.lines_text_law.proofs.Sorts.{told}
use Rattle.lines_reading_law.proofs.EventLines.{event-lines}
use Rattle.state_law.specs.declared.Session.{Session}
use Rattle.state_law.specs.Day.{Day}
use Rattle.soundness_law.specs.Sound.{day_in}
use Rattle.engine_law.specs.Answers.{Answer}
use Rattle.engine_law.specs.declared.Applied.{Applied}
use Rattle.engine_law.specs.Outcome.{Outcome, outcome}
use Rattle.engine_law.specs.Calls.{called, answer_by, table_by}
use Rattle.engine_law.proofs.Applies.{long-roomy, called-outcome}
use Rattle.engine_law.proofs.Left.{sides_few, outcome-day}
use Rattle.resume_law.specs.Answers.{SavedLine}
use Rattle.resume_law.specs.declared.Halt.{Halt}
use Rattle.resume_law.specs.declared.LineReplayed.{LineReplayed}
use Rattle.resume_law.specs.Rebuilt.{Step, line_by, step_of, used_by}
use Rattle.resume_law.specs.code.Replaying.{Clean, LineReplayedAs, AppliedLong, line_for, line_replayed_to, place_on, EventReplayed, LineTold, LineFrom}

-- ---- the parts of a step, each as it has to be

stepped_as : {t : Step} {buys sells buys' sells' : List ℕ} {r : LineReplayed} {line : SavedLine} {session : Session} → r ≡ line_replayed_to line session → line ≡ t.line →
    day_in session buys' sells' ≡ t.day → ((used_by t.line ≡ 0 → ⊥) → Clean session buys' sells') →
    (t.line ≡ Err Halt.Unfinished → (buys' ≡ buys) × (sells' ≡ sells)) → LineReplayedAs t buys sells buys' sells' r
stepped_as {t} {buys} {sells} {buys'} {sells'} {r} {line} {session} e l d c u =
    record {
      line = ap (λ (x : LineReplayed). x.line) e ∙ l;
      day = ap (λ (x : LineReplayed). day_in x.session buys' sells') e ∙ d;
      clean = λ n. subst (λ (x : LineReplayed). Clean x.session buys' sells') (sym e) (c n);
      same = u;
    }

-- ---- the line by the engine's answer

module _ (a : Answer) (used : ℕ) where
  pub for_reported : (count : ℕ) → a ≡ Ok count → Ok used ≡ line_for a used
  for_reported count e = rw e refl

  pub for_refused : (r : Refusal) → a ≡ Err r → Err Halt.Refused ≡ line_for a used
  for_refused r e = rw e refl

-- ---- an event that a call answers

module _ (s : Session) (e : Event) (buys sells room buys' sells' room' : List ℕ) (p : Applied) (applied : AppliedLong s e buys sells room buys' sells' room' p) where
  abbrev o : Outcome
  o = outcome (day_in s buys sells) e

  comes_to : called s e buys sells room ≡ o
  comes_to = called-outcome s e buys sells room (long-roomy applied.long)

  bought_is : buys' ≡ table_by o.verdict o.day.buys buys
  bought_is = applied.applied.bought ∙ ap (λ (x : Outcome). table_by x.verdict x.day.buys buys) comes_to

  sold_is : sells' ≡ table_by o.verdict o.day.sells sells
  sold_is = applied.applied.sold ∙ ap (λ (x : Outcome). table_by x.verdict x.day.sells sells) comes_to

  day_is : day_in p.session buys' sells' ≡ o.day
  day_is =
      outcome-day s p.session buys sells buys' sells' e (applied.applied.session ∙ ap (λ (x : Outcome). x.day.session) comes_to) bought_is sold_is

  -- an accepted event leaves clean tables
  clean_is : o.verdict ≡ Ok tt → Clean p.session buys' sells'
  clean_is v =
      let few = sides_few (day_in s buys sells) e v in
      let b : buys' ≡ table_of o.day.buys buys = bought_is ∙ ap (λ (x : Verdict). table_by x o.day.buys buys) v in
      let t : sells' ≡ table_of o.day.sells sells = sold_is ∙ ap (λ (x : Verdict). table_by x o.day.sells sells) v in
      record {
        bought =
            b
            ∙ sym (table_of-table_of o.day.buys o.day.buys buys few.0)
            ∙ ap (table_of o.day.buys) (sym b)
            ∙ ap (λ (x : Day). table_of x.buys buys') (sym day_is);
        sold =
            t
            ∙ sym (table_of-table_of o.day.sells o.day.sells sells few.1)
            ∙ ap (table_of o.day.sells) (sym t)
            ∙ ap (λ (x : Day). table_of x.sells sells') (sym day_is);
      }

  not-unfinished : (v : Verdict) (n : ℕ) {P : Type 0} → line_by v n ≡ Err Halt.Unfinished → P
  not-unfinished (Ok _) n q = absurd (let z : ◌≡◌ {A = ℕ} 0 1 = cc in omega arith)
  not-unfinished (Err r) n q = absurd (let z : ◌≡◌ {A = ℕ} 0 1 = cc in omega arith)

  -- an applied line was accepted
  applied-fine : (v : Verdict) (used : ℕ) → (used_by (line_by v used) ≡ 0 → ⊥) → v ≡ Ok tt
  applied-fine (Ok _) used n = refl
  applied-fine (Err r) used n = absurd (n refl)

  line_is : (v : Verdict) (n used : ℕ) → line_for (answer_by v n) used ≡ line_by v used
  line_is (Ok _) n used = refl
  line_is (Err r) n used = refl

  answered : p.answer ≡ answer_by o.verdict (length o.reports)
  answered = applied.applied.answer ∙ ap (λ (x : Outcome). answer_by x.verdict (length x.reports)) comes_to

  pub event-replayed : (used : ℕ) (line : SavedLine) → line ≡ line_for p.answer used →
      EventReplayed s e used buys sells buys' sells' (record { line = line; session = p.session })
  event-replayed used line h =
      record {
        replayed =
            stepped_as refl (h ∙ ap (λ (a : Answer). line_for a used) answered ∙ line_is o.verdict (length o.reports) used) day_is
            (λ n. clean_is (applied-fine o.verdict used n)) (not-unfinished o.verdict used);
      }

-- ---- a line, by what it was read as

-- a whole line and a wrong one lie within the bytes
abbrev Within : List ℕ → SavedLine → Type 0
Within bytes l = (used_by l ≤ length bytes) × (place_on l ≤ length bytes)

bounds : (bytes : List ℕ) (v : Verdict) (n : ℕ) → n ≤ length bytes → Within bytes (line_by v n)
bounds bytes (Ok _) n h = (h, omega arith)
bounds bytes (Err r) n h = (omega arith, omega arith)

module _ (session : Session) (bytes buys sells : List ℕ) (a : LineAnswer Event) (read : ReadAs EventLine bytes a) where
  abbrev d : Day
  d = day_in session buys sells

  right_as : {o : LineAnswer Event} → a ≡ o → Right EventLine bytes o
  right_as q = subst (Right EventLine bytes) q read.right

  with_bounds : (l : SavedLine) (o : LineAnswer Event) (buys' sells' : List ℕ) (r : LineReplayed) → a ≡ o →
      LineReplayedAs (step_of d o) buys sells buys' sells' r → r.line ≡ l → Within bytes l → LineTold session bytes buys sells buys' sells' r
  with_bounds l o buys' sells' r q k e w =
      let b : Within bytes r.line = subst (Within bytes) (sym e) w in
      record {
        replayed =
            subst (λ (x : LineAnswer Event). LineReplayedAs (step_of d x) buys sells buys' sells' r) (sym q ∙ told event-lines bytes a read) k;
        used_there = b.0;
        place_there = b.1;
      }

  pub line-whole : (buys' sells' : List ℕ) (r : LineReplayed) (e : Event) (n : ℕ) → a ≡ whole e n → EventReplayed session e n buys sells buys' sells' r →
      LineTold session bytes buys sells buys' sells' r
  line-whole buys' sells' r e n q k =
      with_bounds _ (whole e n) buys' sells' r q k.replayed k.replayed.line (bounds bytes (outcome d e).verdict n (right_as q).0)

  pub line-unfinished : (r : LineReplayed) → a ≡ unfinished → r ≡ line_replayed_to (Err Halt.Unfinished) session → LineTold session bytes buys sells buys sells r
  line-unfinished r q e =
      with_bounds (Err Halt.Unfinished) unfinished buys sells r q (stepped_as e refl refl (λ n. absurd (n refl)) (λ u. (refl, refl)))
      (ap (λ (x : LineReplayed). x.line) e) (omega arith, omega arith)

  pub line_wrong : (r : LineReplayed) (n : ℕ) → a ≡ wrong n → r ≡ line_replayed_to (Err (Halt.Wrong n)) session → LineTold session bytes buys sells buys sells r
  line_wrong r n q e =
      with_bounds (Err (Halt.Wrong n)) (wrong n) buys sells r q
      (stepped_as e refl refl (λ z. absurd (z refl)) (λ u. absurd (let z : ◌≡◌ {A = ℕ} 0 1 = cc in omega arith)))
      (ap (λ (x : LineReplayed). x.line) e) (omega arith, le_of_lt (right_as q).0)

-- the line from a place on is that of the part of the bytes
pub line_from : (session : Session) (bytes buys sells buys' sells' : List ℕ) (at : ℕ) (r : LineReplayed) →
    LineTold session (take (length bytes - at) (drop at bytes)) buys sells buys' sells' r → at ≤ length bytes →
    LineFrom session bytes at buys sells buys' sells' r
line_from session bytes buys sells buys' sells' at r k h =
    let part : take (length bytes - at) (drop at bytes) ≡ drop at bytes = take_all (length bytes - at) (drop at bytes) (le_of_eq (length-drop at bytes)) in
    let t = length-take (length bytes - at) (drop at bytes) in
    let l = length-drop at bytes in
    record { replayed = rw part at k.replayed; used_there = omega (arith, k.used_there); place_there = omega (arith, k.place_there) }
