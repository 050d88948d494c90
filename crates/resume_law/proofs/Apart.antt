-- Saved bytes tell the settings and the events: two accepted runs never share them.
use Prim.Native.Nat.{ℕ}
use native.Mathlib.Omega.{arith}
use mathlib.Core.Path.{◌≡◌, refl, sym, ap, ◌∙◌}
use mathlib.Core.List.{List, [], ◌∷◌, ◌++◌}
use lib.ListN.{length, drop}
use lib.Seq.{drop-append_seam}
use Rattle.std.specs.Prelude.{Ok}
use Rattle.terms.specs.declared.Event.{Event}
use Rattle.terms.specs.declared.Settings.{Settings}
use Rattle.terms.specs.Settings.{settings_verdict}
use Rattle.lines_text_law.specs.Grammar.{whole, unfinished}
use Rattle.lines_reading_law.specs.Lines.{render_event, render_settings}
use Rattle.lines_reading_law.specs.Answers.{read_event, read_settings}
use Rattle.lines_reading_law.proofs.EventLines.{event-lines}
use Rattle.lines_reading_law.proofs.SettingsLines.{settings-lines}
use Rattle.state_law.specs.Day.{Day, opened}
use Rattle.engine_law.specs.Outcome.{outcome}
use Rattle.resume_law.specs.Saved.{event_lines, saved, AllAccepted}
use Rattle.resume_law.proofs.Numbers.{accepted-writable, settings-writable}

same_read : {E : Type 0} {e f : E} {m n : ℕ} → whole e m ≡ whole f n → e ≡ f
same_read p = cc

same_size : {E : Type 0} {e f : E} {m n : ℕ} → whole e m ≡ whole f n → m ≡ n
same_size p = cc

-- what follows a line of the same length is the same
same_rest : (a b xs ys : List ℕ) → a ++ xs ≡ b ++ ys → length a ≡ length b → xs ≡ ys
same_rest a b xs ys e l =
    sym (drop-append_seam a xs) ∙ (λ i. drop (l i) (e i)) ∙ drop-append_seam b ys

read_lines : (d : Day) (e : Event) (es : List Event) → (outcome d e).verdict ≡ Ok tt → read_event (event_lines (e ∷ es)) ≡ whole e (length (render_event e))
unfolding event_lines
read_lines d e es v = event-lines.back e (event_lines es) (accepted-writable d e v)

no_lines : (d : Day) (e : Event) (es : List Event) → (outcome d e).verdict ≡ Ok tt → event_lines [] ≡ event_lines (e ∷ es) → ⊥
unfolding event_lines
no_lines d e es v q =
    let p : whole e (length (render_event e)) ≡ unfinished = sym (read_lines d e es v) ∙ ap read_event (sym q) ∙ event-lines.none in
    let z : ◌≡◌ {A = ℕ} 0 1 = cc in
    omega arith

lines-apart : (d d' : Day) (es fs : List Event) → AllAccepted d es → AllAccepted d' fs → event_lines es ≡ event_lines fs → es ≡ fs
unfolding event_lines
lines-apart d d' [] [] a b q = refl
lines-apart d d' [] (f ∷ fs) a b q = absurd (no_lines d' f fs b.0 q)
lines-apart d d' (e ∷ es) [] a b q = absurd (no_lines d e es a.0 (sym q))
lines-apart d d' (e ∷ es) (f ∷ fs) a b q =
    let p : whole e (length (render_event e)) ≡ whole f (length (render_event f)) =
    sym (read_lines d e es a.0) ∙ ap read_event q ∙ read_lines d' f fs b.0 in
    let rest : event_lines es ≡ event_lines fs = same_rest (render_event e) (render_event f) (event_lines es) (event_lines fs) q (same_size p) in
    let r : es ≡ fs = lines-apart (outcome d e).day (outcome d' f).day es fs a.1 b.1 rest in
    λ i. same_read p i ∷ r i

pub saved-apart : (g h : Settings) (es fs : List Event) → settings_verdict g ≡ Ok tt → settings_verdict h ≡ Ok tt → AllAccepted (opened g) es →
    AllAccepted (opened h) fs → saved g es ≡ saved h fs → (g ≡ h) × (es ≡ fs)
saved-apart g h es fs v w a b q =
    let p : whole g (length (render_settings g)) ≡ whole h (length (render_settings h)) =
    sym (settings-lines.back g (event_lines es) (settings-writable g v)) ∙ ap read_settings q ∙ settings-lines.back h (event_lines fs) (settings-writable h w) in (
      same_read p,
      lines-apart (opened g) (opened h) es fs a b
          (same_rest (render_settings g) (render_settings h) (event_lines es) (event_lines fs) q (same_size p)),
    )
