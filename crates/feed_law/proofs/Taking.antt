-- What each function of a line leaves is a turn of the definition, by what the line was read as.
use Prim.Native.Nat.{ℕ, ◌*◌, ◌≤◌}
use native.Mathlib.Omega.{arith}
use native.Mathlib.Nat.{le_trans}
use mathlib.Core.Path.{◌≡◌, refl, sym, ap, ◌∙◌, subst}
use mathlib.Core.List.{List, []}
use lib.ListN.{length}
use borrow.Author.Tests.{leb-true}
use Rattle.std.specs.Prelude.{Ok, Err}
use Rattle.terms.specs.declared.Event.{Event}
use Rattle.terms.specs.declared.Settings.{Settings}
use Rattle.terms.specs.declared.Report.{Report}
use Rattle.terms.specs.declared.Refusal.{Refusal}
use Rattle.terms.specs.declared.Refusal.TheVariants.{LineWrong}
use Rattle.terms.specs.Refusals.{Verdict}
use Rattle.terms.specs.Sizes.{line_room}
use Rattle.tables.specs.Lengths.{record_length, room_length}
use Rattle.terms.proofs.Logic.{both}
use Rattle.lines_text_law.specs.Grammar.{LineAnswer, whole, unfinished, wrong}
use Rattle.lines_text_law.proofs.Sorts.{told}
use Rattle.lines_text_law.specs.Reading.{ReadAs}
use Rattle.lines_reading_law.specs.Lines.{EventLine, SettingsLine}
use Rattle.lines_reading_law.proofs.EventLines.{event-lines}
use Rattle.lines_reading_law.proofs.SettingsLines.{settings-lines}
use Rattle.state_law.specs.declared.Session.{Session}
use Rattle.state_law.specs.declared.Opened.{Opened}
use Rattle.state_law.specs.Opening.{opening_of}
use Rattle.engine_law.specs.declared.Applied.{Applied}
use Rattle.engine_law.specs.Calls.{roomy, called, answer_by, AppliedAs}
use Rattle.engine_law.proofs.Called.{called-few, fine-roomy}
use Rattle.feed_law.specs.declared.Run.{Run}
use Rattle.feed_law.specs.declared.Stage.{Stage}
use Rattle.feed_law.specs.declared.Turned.{Turned}
use Rattle.feed_law.specs.Texts.{text_most, most_at, records_text, refused_text, event_text, bad_text}
use Rattle.feed_law.specs.Worlds.{Lent, lent_of, calls}
use Rattle.feed_law.specs.Turns.{Turn, stage_by, saves_by, settings_turn, event_turn, turn_of}
use Rattle.feed_law.specs.Feeds.{Prints, turn_by, turned_to, TurnedAs, TablesAside, BadTurned, OpenTurned, WholeTurned, SettingsTurned, EventTurned, TurnTaken}
use Rattle.feed_law.proofs.Prints.{records_line, prints_within}
use Rattle.feed_law.proofs.First.{turn_within, turn_saves}

-- ---- a turn is put together from its parts

turned_as : {t : Turn Lent} {out buys sells room out' : List ℕ} {r : Turned} {stage : Stage} {session : Session} {used saves wrote : ℕ} →
    r ≡ turned_to stage session used saves wrote → stage ≡ t.stage → lent_of session buys sells room ≡ t.world → used ≡ t.used → saves ≡ t.saves →
    Prints out t.text wrote out' →
    TurnedAs t out buys sells room out' r
turned_as {t} {out} {buys} {sells} {room} {out'} e s w u v p =
    record {
      stage = ap (λ (x : Turned). x.run.stage) e ∙ s;
      world = ap (λ (x : Turned). lent_of x.run.session buys sells room) e ∙ w;
      used = ap (λ (x : Turned). x.used) e ∙ u;
      saves = ap (λ (x : Turned). x.saves) e ∙ v;
      printed = subst (λ (x : Turned). Prints out t.text x.wrote out') (sym e) p;
    }

-- where nothing is printed, the room stays as it was
nothing : (out : List ℕ) → Prints out [] 0 out
nothing out = record { count = refl; laid = refl }

-- ---- settings

-- a bad line ends the run
pub ends_here : {session : Session} {place wrote : ℕ} {out out' : List ℕ} {r : Turned} →
    Prints out (bad_text LineWrong place) wrote out' → r ≡ turned_to Stage.Over session 0 0 wrote → BadTurned session place out out' r
ends_here p e = record { turned = λ buys sells room. turned_as e refl refl refl refl p }

-- settings that were read are opened or refused
module _ (g : Settings) (o : Opened) (used : ℕ) (opened : o ≡ opening_of g) where
  judged : {v : Verdict} → o.verdict ≡ v → (opening_of g).verdict ≡ v
  judged e = ap (λ (x : Opened). x.verdict) (sym opened) ∙ e

  saved_as : {v : Verdict} → o.verdict ≡ v → saves_by v used ≡ saves_by (opening_of g).verdict used
  saved_as e = sym (ap (λ (x : Verdict). saves_by x used) (judged e))

  kept : (buys sells room : List ℕ) → lent_of o.session buys sells room ≡ lent_of (opening_of g).session buys sells room
  kept buys sells room = ap (λ (x : Opened). lent_of x.session buys sells room) opened

  pub opens-fine : {out : List ℕ} {r : Turned} → o.verdict ≡ Ok tt → r ≡ turned_to Stage.Trading o.session used used 0 → OpenTurned g used out out r
  unfolding calls
  opens-fine {out} v e =
      record { turned = λ buys sells room. turned_as e (sym (ap stage_by (judged v))) (kept buys sells room) refl (saved_as v) (rw (judged v) (nothing out)) }

  pub opens-refused : {out out' : List ℕ} {r : Turned} {wrote : ℕ} {q : Refusal} → o.verdict ≡ Err q → Prints out (bad_text q 0) wrote out' →
      r ≡ turned_to Stage.Over o.session used 0 wrote → OpenTurned g used out out' r
  unfolding calls
  opens-refused v p e =
      record { turned = λ buys sells room. turned_as e (sym (ap stage_by (judged v))) (kept buys sells room) refl (saved_as v) (rw (judged v) p) }

-- each answer of the reader of settings is one case
module _ {session : Session} {bytes : List ℕ} {a : LineAnswer Settings} (read : ReadAs SettingsLine bytes a) where
  by_settings : {out out' : List ℕ} {r : Turned} (o : LineAnswer Settings) → a ≡ o →
      TablesAside session (λ l. settings_turn calls l o) out out' r → SettingsTurned session bytes out out' r
  by_settings {out} {out'} {r} o e k =
      record {
        turned =
            λ buys sells room.
            subst (λ (x : LineAnswer Settings). TurnedAs (settings_turn calls (lent_of session buys sells room) x) out buys sells room out' r)
            (sym e ∙ told settings-lines bytes a read) (k buys sells room);
      }

  pub settings-whole : {out out' : List ℕ} {r : Turned} {g : Settings} {n : ℕ} → a ≡ whole g n →
      OpenTurned g n out out' r → SettingsTurned session bytes out out' r
  unfolding calls
  settings-whole {g = g} {n = n} e k = by_settings (whole g n) e k.turned

  pub settings_unfinished : {out : List ℕ} {r : Turned} → a ≡ unfinished → r ≡ turned_to Stage.Awaiting session 0 0 0 →
      SettingsTurned session bytes out out r
  settings_unfinished {out} e q = by_settings unfinished e (λ buys sells room. turned_as q refl refl refl refl (nothing out))

  pub settings_wrong : {out out' : List ℕ} {r : Turned} {n : ℕ} → a ≡ wrong n → BadTurned session n out out' r → SettingsTurned session bytes out out' r
  settings_wrong {n = n} e k = by_settings (wrong n) e k.turned

-- ---- events

module _ {session : Session} {bytes buys sells room : List ℕ} {a : LineAnswer Event} (read : ReadAs EventLine bytes a) where
  by_event : {out buys' sells' room' out' : List ℕ} {r : Turned} (o : LineAnswer Event) → a ≡ o →
      TurnedAs (event_turn calls (lent_of session buys sells room) o) out buys' sells' room' out' r →
      EventTurned session bytes buys sells room out buys' sells' room' out' r
  by_event {out} {buys'} {sells'} {room'} {out'} {r} o e k =
      record {
        turned =
            subst (λ (x : LineAnswer Event). TurnedAs (event_turn calls (lent_of session buys sells room) x) out buys' sells' room' out' r)
            (sym e ∙ told event-lines bytes a read) k;
      }

  pub event-whole : {out buys' sells' room' out' : List ℕ} {r : Turned} {e : Event} {n : ℕ} → a ≡ whole e n →
      WholeTurned session e n buys sells room out buys' sells' room' out' r →
      EventTurned session bytes buys sells room out buys' sells' room' out' r
  event-whole {e = e} {n = n} q k = by_event (whole e n) q k.turned

  pub event-unfinished : {out : List ℕ} {r : Turned} → a ≡ unfinished → r ≡ turned_to Stage.Trading session 0 0 0 →
      EventTurned session bytes buys sells room out buys sells room out r
  event-unfinished {out} q e = by_event unfinished q (turned_as e refl refl refl refl (nothing out))

  pub event-wrong : {out out' : List ℕ} {r : Turned} {n : ℕ} → a ≡ wrong n → BadTurned session n out out' r →
      EventTurned session bytes buys sells room out buys sells room out' r
  event-wrong {n = n} q k = by_event (wrong n) q (k.turned buys sells room)

-- ---- an event that a call answers

module _ {s : Session} {e : Event} {buys sells room buys' sells' room' : List ℕ} {p : Applied} (k : AppliedAs s e buys sells room buys' sells' room' p) where
  abbrev reports : List Report
  reports = (called s e buys sells room).reports

  abbrev verdict : Verdict
  verdict = (called s e buys sells room).verdict

  -- where a count is answered, the event was not refused, and the count is that of its reports
  counted : (v : Verdict) (n count : ℕ) → answer_by v n ≡ Ok count → (v ≡ Ok tt) × (count ≡ n)
  counted (Ok _) n count q = (refl, (cc))
  counted (Err r) n count q = absurd (let z : ◌≡◌ {A = ℕ} 0 1 = cc in omega arith)

  refused : (v : Verdict) (n : ℕ) (r : Refusal) → answer_by v n ≡ Err r → v ≡ Err r
  refused (Ok _) n r q = absurd (let z : ◌≡◌ {A = ℕ} 0 1 = cc in omega arith)
  refused (Err r') n r q = cc

  by_count : {count : ℕ} → p.answer ≡ Ok count → (verdict ≡ Ok tt) × (count ≡ length reports)
  by_count q = counted verdict (length reports) _ (sym k.answer ∙ q)

  -- the report room holds all records that are counted, and the output room can hold their lines
  pub reports-held : {count : ℕ} → p.answer ≡ Ok count → length room' ≡ length room → record_length * count ≤ length room'
  unfolding roomy
  reports-held q h =
      let c = by_count q in
      let few = called-few s e buys sells room in
      let long : room_length ≤ length room = leb-true room_length (length room) (both (fine-roomy s e buys sells room c.0)).1 in
      omega (arith, c.1)

  pub lines-held : {count : ℕ} (out : List ℕ) → p.answer ≡ Ok count → text_most ≤ length out → line_room * count ≤ length out
  lines-held out q h =
      let c = by_count q in
      let few = called-few s e buys sells room in
      omega (arith, c.1)

  left : lent_of p.session buys' sells' room' ≡ calls.next (lent_of s buys sells room) e
  unfolding calls
  left = λ i. lent_of (k.session i) (k.bought i) (k.sold i) (k.told i)

  module _ {used wrote : ℕ} {out out' : List ℕ} {r : Turned} where
    -- the reports of an accepted event are printed,
    pub goes-told : {count : ℕ} → r ≡ turned_to Stage.Trading p.session used used wrote → p.answer ≡ Ok count → Prints out (records_text count room') wrote out' →
        WholeTurned s e used buys sells room out buys' sells' room' out' r
    unfolding calls
    goes-told {count} h q t =
        let c = by_count q in
        let text : records_text count room' ≡ event_text e verdict reports =
        (λ i. records_text (c.1 i) (k.told i)) ∙ records_line reports room ∙ ap (λ (v : Verdict). event_text e v reports) (sym c.0) in
        record { turned = turned_as h refl left refl (sym (ap (λ (v : Verdict). saves_by v used) c.0)) (subst (λ (x : List ℕ). Prints out x wrote out') text t) }

    -- or its refusal is
    pub goes-refused : {n : Refusal} → r ≡ turned_to Stage.Trading p.session used 0 wrote → p.answer ≡ Err n → Prints out (refused_text e.time n) wrote out' →
        WholeTurned s e used buys sells room out buys' sells' room' out' r
    unfolding calls
    goes-refused {n} h q t =
        let v : verdict ≡ Err n = refused verdict (length reports) n (sym k.answer ∙ q) in
        let text : refused_text e.time n ≡ event_text e verdict reports = ap (λ (x : Verdict). event_text e x reports) (sym v) in
        record { turned = turned_as h refl left refl (sym (ap (λ (x : Verdict). saves_by x used) v)) (subst (λ (x : List ℕ). Prints out x wrote out') text t) }

-- ---- by where the run stands

-- what the next line can print fits in the room
pub most_awaiting : {stage : Stage} {n : ℕ} → stage ≡ Stage.Awaiting → most_at stage ≤ n → line_room ≤ n
most_awaiting e h = rw e at h

pub most_trading : {stage : Stage} {n : ℕ} → stage ≡ Stage.Trading → most_at stage ≤ n → text_most ≤ n
most_trading e h = rw e at h

module _ {run : Run} {buys sells room bytes : List ℕ} where
  in_stage : {out buys' sells' room' out' : List ℕ} {r : Turned} (stage : Stage) → run.stage ≡ stage →
      TurnedAs (turn_of calls stage (lent_of run.session buys sells room) bytes) out buys' sells' room' out' r → length out' ≡ length out →
      TurnTaken run buys sells room bytes out buys' sells' room' out' r
  in_stage {out} {buys'} {sells'} {room'} {out'} {r} stage e k kept =
      let t : TurnedAs (turn_by run buys sells room bytes) out buys' sells' room' out' r =
      subst (λ (x : Stage). TurnedAs (turn_of calls x (lent_of run.session buys sells room) bytes) out buys' sells' room' out' r) (sym e) k in
      let w = turn_within calls run.stage (lent_of run.session buys sells room) bytes in
      let v = turn_saves calls run.stage (lent_of run.session buys sells room) bytes in
      record { turned = t; used_there = rw t.used w; saves_there = rw t.saves (le_trans v w); wrote_there = prints_within t.printed kept }

  -- the turn is that of the line that is due: settings, an event, or nothing more
  pub turn_settings : {out out' : List ℕ} {r : Turned} → run.stage ≡ Stage.Awaiting → SettingsTurned run.session bytes out out' r →
      length out' ≡ length out → TurnTaken run buys sells room bytes out buys sells room out' r
  turn_settings e k kept = in_stage Stage.Awaiting e (k.turned buys sells room) kept

  pub turn_event : {out buys' sells' room' out' : List ℕ} {r : Turned} → run.stage ≡ Stage.Trading →
      EventTurned run.session bytes buys sells room out buys' sells' room' out' r → length out' ≡ length out →
      TurnTaken run buys sells room bytes out buys' sells' room' out' r
  turn_event e k kept = in_stage Stage.Trading e k.turned kept

  pub turn_over : {out : List ℕ} {r : Turned} → run.stage ≡ Stage.Over → r ≡ turned_to Stage.Over run.session 0 0 0 →
      TurnTaken run buys sells room bytes out buys sells room out r
  turn_over {out} e q = in_stage Stage.Over e (turned_as q refl refl refl refl (nothing out)) refl
