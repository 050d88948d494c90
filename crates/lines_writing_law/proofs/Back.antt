-- What is written is read back, and a writer's answer and room are determined.
use Prim.Native.Nat.{ℕ, ◌≤◌}
use native.Mathlib.Omega.{arith}
use mathlib.Core.Path.{◌≡◌, refl, sym, ap, ◌∙◌}
use mathlib.Core.List.{List, [], ◌++◌}
use lib.ListN.{length, drop, length-append, length-drop}
use lib.Dec.{leb}
use Rattle.std.specs.Prelude.{Ok, Err, Result}
use Rattle.terms.specs.declared.Event.{Event}
use Rattle.terms.specs.declared.Settings.{Settings}
use Rattle.terms.specs.declared.Refusal.{Refusal}
use Rattle.terms.specs.Sizes.{line_room}
use Rattle.terms.specs.Refusals.{Verdict, code_of}
use Rattle.terms.proofs.Cascade.{fine-first}
use Rattle.lines_text_law.specs.Numerals.{all_writable}
use Rattle.terms.specs.Numbers.{Writable}
use Rattle.lines_text_law.specs.Grammar.{LineAnswer, whole}
use Rattle.lines_text_law.proofs.Fills.{tested_writable}
use Rattle.lines_text_law.proofs.Sorts.{Lawful}
use Rattle.lines_reading_law.specs.Lines.{render_event, event_figures, render_settings, settings_figures}
use Rattle.lines_reading_law.specs.Answers.{read_event, read_settings}
use Rattle.lines_reading_law.proofs.EventLines.{event-lines}
use Rattle.lines_reading_law.proofs.SettingsLines.{settings-lines}
use Rattle.lines_writing_law.specs.Writes.{line_verdict, wrote_of, wrote_code, room_of, Writes}

-- a writer's answer and room are determined by what it was handed
pub writes_one : {d line ns d' d'' : List ℕ} {r q : Result ℕ Refusal} → Writes d line ns r d' → Writes d line ns q d'' → (r ≡ q) × (d' ≡ d'')
writes_one a b = (a.answer ∙ sym b.answer, a.laid ∙ sym b.laid)

-- the number of an answer is that of the first row that applies
code_by : (v : Verdict) (n : ℕ) → wrote_code (wrote_of v n) ≡ code_of v
code_by (Ok _) n = refl
code_by (Err r) n = refl

pub written_code : {d line ns d' : List ℕ} {r : Result ℕ Refusal} → Writes d line ns r d' → wrote_code r ≡ code_of (line_verdict d ns)
written_code {d} {line} {ns} a = ap wrote_code a.answer ∙ code_by (line_verdict d ns) (length line)

fine-writable : (d ns : List ℕ) → line_verdict d ns ≡ Ok tt → Writable ns
unfolding line_verdict
fine-writable d ns e = tested_writable ns (fine-first _ (all_writable ns) [] (fine-first _ (leb line_room (length d)) _ e).1).0

never : (n : ℕ) (r : Refusal) → Ok n ≡ Err r → ⊥
never n r p = let z : ◌≡◌ {A = ℕ} 0 1 = cc in omega arith

-- where a length is answered, the room starts with the line, and each of its numbers can be written
written-line : {d line ns d' : List ℕ} {n : ℕ} → Writes d line ns (Ok n) d' → (n ≡ length line) × (d' ≡ line ++ drop (length line) d) × Writable ns
written-line {d} {line} {ns} {d'} {n} w = go (line_verdict d ns) refl w.answer w.laid
  where
    go : (v : Verdict) → line_verdict d ns ≡ v → Ok n ≡ wrote_of v (length line) → d' ≡ room_of v line d
        → (n ≡ length line) × (d' ≡ line ++ drop (length line) d) × Writable ns
    go (Ok _) e p q = ((cc), q, fine-writable d ns e)
    go (Err r) e p q = absurd (never n r p)

-- the length that is answered is within the room
pub written-within : {d line ns d' : List ℕ} {n : ℕ} → Writes d line ns (Ok n) d' → length d' ≡ length d → n ≤ length d
written-within {d} {line} {ns} {d'} {n} w s =
    let l = written-line w in
    let e = ap length l.1 ∙ length-append line (drop (length line) d) in
    let f = length-drop (length line) d in
    let g = l.0 in
    omega arith

-- what was written is read back with the same value and length, whatever else stands in the room
written_back : {E : Type 0} {render figures : E → List ℕ} {read : List ℕ → LineAnswer E} → Lawful render figures read →
    {d d' : List ℕ} {n : ℕ} (e : E) → Writes d (render e) (figures e) (Ok n) d' → read d' ≡ whole e n
written_back {render = render} {read = read} lines {d} e w =
    let l = written-line w in
    ap read l.1 ∙ lines.back e (drop (length (render e)) d) l.2 ∙ ap (whole e) (sym l.0)

pub written-event_back : {d d' : List ℕ} {n : ℕ} (e : Event) → Writes d (render_event e) (event_figures e) (Ok n) d' → read_event d' ≡ whole e n
written-event_back e w = written_back event-lines e w

pub written-settings_back : {d d' : List ℕ} {n : ℕ} (g : Settings) → Writes d (render_settings g) (settings_figures g) (Ok n) d' → read_settings d' ≡ whole g n
written-settings_back g w = written_back settings-lines g w
