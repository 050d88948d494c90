-- The lines of saved bytes, one at a time.
use Prim.Native.Nat.{ℕ, zero, suc, ◌+◌}
use mathlib.Core.Path.{◌≡◌, refl, ap, ◌∙◌}
use mathlib.Core.Bool.{Bool, true}
use mathlib.Core.List.{List, []}
use lib.ListN.{drop}
use Rattle.std.specs.Prelude.{Ok, Err}
use Rattle.terms.specs.declared.Event.{Event}
use Rattle.terms.specs.declared.Settings.{Settings}
use Rattle.terms.specs.declared.Refusal.{Refusal}
use Rattle.terms.specs.declared.Refusal.TheVariants.{LineWrong, LineRefused}
use Rattle.terms.specs.Refusals.{Verdict}
use Rattle.lines_text_law.specs.Grammar.{LineAnswer, whole, unfinished, wrong}
use Rattle.lines_reading_law.specs.Answers.{read_event, read_settings}
use Rattle.lines_reading_law.proofs.EventLines.{event-lines}
use Rattle.state_law.specs.Day.{Day}
use Rattle.engine_law.specs.Outcome.{outcome}
use Rattle.resume_law.specs.Rebuilt.{Rebuilt, rebuilt, refused, Step, line_by, step_of, used_by, on_line, lines_from, settled_by, resumed}

module _ (at : ℕ) (moved : Bool) (d : Day) (bytes : List ℕ) where
  -- a line, and what follows it
  abbrev Then : ℕ → Step → Rebuilt
  Then n t = on_line t.line at moved d (lines_from n (at + used_by t.line) true t.day (drop (used_by t.line) bytes))

  step_is : (n : ℕ) (t : Step) → step_of d (read_event bytes) ≡ t → lines_from (suc n) at moved d bytes ≡ Then n t
  unfolding lines_from
  step_is n t e = ap (Then n) e

  -- by how it is read
  read_is : (n : ℕ) (o : LineAnswer Event) → read_event bytes ≡ o → lines_from (suc n) at moved d bytes ≡ Then n (step_of d o)
  read_is n o e = step_is n (step_of d o) (ap (step_of d) e)

  judged_is : (n : ℕ) (e : Event) (m : ℕ) (v : Verdict) → read_event bytes ≡ whole e m → (outcome d e).verdict ≡ v →
      lines_from (suc n) at moved d bytes ≡ Then n (record { line = line_by v m; day = (outcome d e).day })
  judged_is n e m v q w = read_is n (whole e m) q ∙ ap (λ (x : Verdict). Then n (record { line = line_by x m; day = (outcome d e).day })) w

  pub line-applied : (n : ℕ) (e : Event) (m : ℕ) → read_event bytes ≡ whole e m → (outcome d e).verdict ≡ Ok tt →
      lines_from (suc n) at moved d bytes ≡ lines_from n (at + m) true (outcome d e).day (drop m bytes)
  line-applied n e m q w = judged_is n e m (Ok tt) q w

  pub line_refused : (n : ℕ) (e : Event) (m : ℕ) (r : Refusal) → read_event bytes ≡ whole e m → (outcome d e).verdict ≡ Err r →
      lines_from (suc n) at moved d bytes ≡ refused LineRefused at
  line_refused n e m r q w = judged_is n e m (Err r) q w

  pub line-unfinished : (n : ℕ) → read_event bytes ≡ unfinished → lines_from n at moved d bytes ≡ rebuilt at moved d
  unfolding lines_from
  line-unfinished zero q = refl
  line-unfinished (suc n) q = read_is n unfinished q

  pub line_wrong : (n m : ℕ) → read_event bytes ≡ wrong m → lines_from (suc n) at moved d bytes ≡ refused LineWrong (at + m)
  line_wrong n m q = read_is n (wrong m) q

-- no bytes, no line
pub lines_none : (n at : ℕ) (moved : Bool) (d : Day) → lines_from n at moved d [] ≡ rebuilt at moved d
lines_none n at moved d = line-unfinished at moved d [] n event-lines.none

-- the settings, by how they are read
pub settled : (bytes : List ℕ) (o : LineAnswer Settings) → read_settings bytes ≡ o → resumed bytes ≡ settled_by o bytes
unfolding resumed
settled bytes o q = ap (λ (x : LineAnswer Settings). settled_by x bytes) q
