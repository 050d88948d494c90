-- Each return of the calls that write a line leaves what the definition says.
use Prim.Native.Nat.{ℕ, ◌≤◌, ◌<◌}
use native.Mathlib.Omega.{arith}
use mathlib.Core.Path.{◌≡◌, refl, ap, ◌∙◌}
use mathlib.Core.Bool.{Bool, true, false, not}
use mathlib.Core.List.{List, []}
use borrow.Author.Tests.{lt-ltb, le-ltb, lt-leb, le-leb, not-true, not-false}
use lib.ListN.{length, get_or, take, drop}
use Rattle.std.specs.Prelude.{Option, Some, None, Ok, Err, Result}
use Rattle.terms.specs.declared.Event.{Event}
use Rattle.terms.specs.declared.Refusal.{Refusal}
use Rattle.terms.specs.declared.Refusal.TheVariants.{SmallRoom, NumberRange, SettingsRange, SmallLineRoom}
use Rattle.terms.specs.declared.Report.{Report}
use Rattle.terms.specs.declared.Settings.{Settings}
use Rattle.terms.specs.Sizes.{line_room}
use Rattle.tables.specs.Lengths.{record_length}
use Rattle.terms.specs.Refusals.{Verdict, first_failed}
use Rattle.lines_text_law.specs.Numerals.{all_writable}
use Rattle.lines_reading_law.specs.Lines.{render_event, render_settings, event_figures, settings_figures}
use Rattle.records_law.specs.Back.{RecordRead}
use Rattle.records_law.proofs.Told.{told-first}
use Rattle.lines_writing_law.specs.Lines.{render_report, report_figures}
use Rattle.lines_writing_law.specs.Writes.{line_verdict, wrote_of, room_of, Writes}
use Rattle.desk_packing_law.specs.Runs.{settings_length, event_length}
use Rattle.desk_packing_law.specs.Settings.{is_category, settings_from}
use Rattle.desk_packing_law.specs.Events.{found_in, event_from}
use Rattle.desk_packing_law.specs.Answers.{count_most, answer_of}
use Rattle.desk_law.specs.Writes.{wrote_number, Few, WrittenOn, settings_verdict_on, SettingsWrittenOn, event_verdict_on, EventWrittenOn, report_verdict_on, ReportWrittenOn}
use Rattle.lines_writing_law.proofs.Short.{event-short, settings-short, report_short}

-- ---- lines of any sort

pub wrote-few : (v : Verdict) (n : ℕ) (w : Result ℕ Refusal) → n ≤ count_most → w ≡ wrote_of v n → Few w
wrote-few (Ok _) n w h e = rw e h
wrote-few (Err r) n w h e = rw e tt

pub wrote-number : (v : Verdict) (n : ℕ) → wrote_number (wrote_of v n) ≡ answer_of v n
wrote-number (Ok _) n = refl
wrote-number (Err r) n = refl

writes_few : (room line ns room' : List ℕ) (w : Result ℕ Refusal) → length line ≤ count_most → Writes room line ns w room' → Few w
writes_few room line ns room' w h k = wrote-few (line_verdict room ns) (length line) w h k.answer

writes_on : (v : Verdict) (room line ns room' : List ℕ) (w : Result ℕ Refusal) (r : ℕ) → v ≡ line_verdict room ns → Writes room line ns w room' → r ≡ wrote_number w → WrittenOn v line room room' r
writes_on v room line ns room' w r e k x =
    record { answer = x ∙ (ap wrote_number k.answer ∙ rw e (wrote-number (line_verdict room ns) (length line))); laid = rw e k.laid }

refused-on : (v : Verdict) (n : Refusal) (line room : List ℕ) (r : ℕ) → v ≡ Err n → r ≡ answer_of (Err n) 0 → WrittenOn v line room room r
refused-on v n line room r e x = record { answer = rw e x; laid = rw e }

-- ---- settings; `found` is the outcome of the code's test whether the category is one

module _ (run room : List ℕ) (r : ℕ) where
  pub settings-no-run : length run < settings_length → r ≡ answer_of (Err SmallRoom) 0 → SettingsWrittenOn run room room r
  unfolding settings_verdict_on
  settings-no-run h x = refused-on _ SmallRoom _ room r (rw (lt-ltb (length run) settings_length h)) x

  module _ (h : settings_length ≤ length run) (found : Bool) (k : found ≡ is_category (get_or run 0 0)) where
    pub settings-none : not found ≡ true → r ≡ answer_of (Err SettingsRange) 0 → SettingsWrittenOn run room room r
    unfolding settings_verdict_on
    settings-none t x = refused-on _ SettingsRange _ room r (rw (le-ltb (length run) settings_length h, ← k, not-true found t)) x

    pub settings-written : (g : Settings) (w : Result ℕ Refusal) (room' : List ℕ) → not found ≡ false → g ≡ settings_from run →
        Writes room (render_settings g) (settings_figures g) w room' → r ≡ wrote_number w → SettingsWrittenOn run room room' r
    unfolding settings_verdict_on
    settings-written g w room' t e p x =
        rw (← e)
        (writes_on _ room (render_settings g) (settings_figures g) room' w r (rw (le-ltb (length run) settings_length h, ← k, not-false found t, e)) p x)

pub settings-few : (g : Settings) (room room' : List ℕ) (w : Result ℕ Refusal) → Writes room (render_settings g) (settings_figures g) w room' → Few w
settings-few g room room' w p = writes_few room (render_settings g) (settings_figures g) room' w (omega (arith, settings-short g)) p

-- ---- events

module _ (run room : List ℕ) (r : ℕ) where
  pub event-no-run : length run < event_length → r ≡ answer_of (Err SmallRoom) 0 → EventWrittenOn run room room r
  unfolding event_verdict_on
  event-no-run h x = refused-on _ SmallRoom _ room r (rw (lt-ltb (length run) event_length h)) x

  module _ (h : event_length ≤ length run) (found : Option Event) (k : found ≡ found_in run) where
    pub event-none : found ≡ None → r ≡ answer_of (Err NumberRange) 0 → EventWrittenOn run room room r
    unfolding event_verdict_on
    event-none t x = refused-on _ NumberRange _ room r (rw (le-ltb (length run) event_length h, ← k, t)) x

    pub event-written : (e : Event) (w : Result ℕ Refusal) (room' : List ℕ) → found ≡ Some e → Writes room (render_event e) (event_figures e) w room' →
        r ≡ wrote_number w → EventWrittenOn run room room' r
    unfolding event_verdict_on event_from
    event-written e w room' t p x =
        rw (← k, t) (writes_on _ room (render_event e) (event_figures e) room' w r (rw (le-ltb (length run) event_length h)) p x)

pub event-few : (e : Event) (room room' : List ℕ) (w : Result ℕ Refusal) → Writes room (render_event e) (event_figures e) w room' → Few w
event-few e room room' w p = writes_few room (render_event e) (event_figures e) room' w (omega (arith, event-short e)) p

-- ---- reports

-- where there is no line to write, the room stays as it was, whatever the verdict
none_written : (v : Verdict) (room : List ℕ) → room ≡ room_of v [] room
none_written (Ok _) room = refl
none_written (Err r) room = refl

module _ (room : List ℕ) (r : ℕ) where
  pub no-line-short : length room < line_room → r ≡ answer_of (Err SmallLineRoom) 0 → r ≡ answer_of (line_verdict room []) 0
  unfolding line_verdict first_failed
  no-line-short h x = rw (lt-leb line_room (length room) h) x

  pub no-line_done : line_room ≤ length room → r ≡ answer_of (Ok tt) 0 → r ≡ answer_of (line_verdict room []) 0
  unfolding line_verdict first_failed all_writable
  no-line_done h x = rw (le-leb line_room (length room) h) x

module _ (run room : List ℕ) (r : ℕ) where
  pub report_no-run : length run < record_length → r ≡ answer_of (Err SmallRoom) 0 → ReportWrittenOn run room room r
  unfolding report_verdict_on
  report_no-run h x = refused-on _ SmallRoom _ room r (rw (lt-ltb (length run) record_length h)) x

  module _ (h : record_length ≤ length run) (o : Option Report) (k : RecordRead (take record_length (drop 0 run)) o) where
    pub report_none : o ≡ None → r ≡ answer_of (line_verdict room []) 0 → ReportWrittenOn run room room r
    unfolding report_verdict_on
    report_none t x =
        rw (le-ltb (length run) record_length h, ← told-first run o h k, t) (record { answer = x; laid = none_written (line_verdict room []) room })

    pub report_written : (p : Report) (w : Result ℕ Refusal) (room' : List ℕ) → o ≡ Some p → Writes room (render_report p) (report_figures p) w room' →
        r ≡ wrote_number w → ReportWrittenOn run room room' r
    unfolding report_verdict_on
    report_written p w room' t q x =
        rw (← told-first run o h k, t) (writes_on _ room (render_report p) (report_figures p) room' w r (rw (le-ltb (length run) record_length h)) q x)

pub report_few : (p : Report) (room room' : List ℕ) (w : Result ℕ Refusal) → Writes room (render_report p) (report_figures p) w room' → Few w
report_few p room room' w q = writes_few room (render_report p) (report_figures p) room' w (omega (arith, report_short p)) q
