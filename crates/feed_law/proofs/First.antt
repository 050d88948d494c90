-- The first line of some bytes, and of the same bytes with more behind them: it is taken, it is wrong, or it is not whole yet.
use Prim.Native.Nat.{ℕ, ◌≤◌}
use native.Mathlib.Omega.{arith}
use mathlib.Core.Path.{◌≡◌, refl, sym, ap, ◌∙◌}
use mathlib.Core.List.{List, [], ◌++◌}
use lib.ListN.{length, length-append}
use Rattle.std.specs.Prelude.{Ok, Err}
use Rattle.terms.specs.declared.Event.{Event}
use Rattle.terms.specs.declared.Settings.{Settings}
use Rattle.terms.specs.declared.Refusal.{Refusal}
use Rattle.terms.specs.Refusals.{Verdict}
use Rattle.terms.specs.Sizes.{line_room}
use Rattle.lines_text_law.specs.Grammar.{LineAnswer, whole, unfinished, wrong}
use Rattle.lines_text_law.specs.Reading.{LineOf, Begins, Right}
use Rattle.lines_text_law.proofs.Sorts.{Lawful, not-whole, not-wrong, some, stays}
use Rattle.lines_reading_law.specs.Answers.{read_event, read_settings}
use Rattle.lines_reading_law.proofs.EventLines.{event-lines}
use Rattle.lines_reading_law.proofs.SettingsLines.{settings-lines}
use Rattle.lines_writing_law.proofs.Short.{event-short, settings-short}
use Rattle.state_law.specs.Opening.{opening_of}
use Rattle.feed_law.specs.declared.Stage.{Stage}
use Rattle.feed_law.specs.declared.Stop.{Stop}
use Rattle.feed_law.specs.Worlds.{World}
use Rattle.feed_law.specs.Turns.{Turn, waits, ends, open_turn, apply_turn, line_turn, saves_by, settings_turn, event_turn, turn_of, stop_at}

pub not-waits : Stop.Over ≡ Stop.Waits → ⊥
not-waits p = let z : ◌≡◌ {A = ℕ} 0 1 = cc in omega arith

-- ---- lines of any sort

module _ {E : Type 0} {render figures : E → List ℕ} {read : List ℕ → LineAnswer E} (lines : Lawful render figures read) where
  -- where lines are short, so are their starts
  start-short : ((e : E) → length (render e) ≤ line_room) → (s : List ℕ) → Begins (LineOf render figures) s → length s ≤ line_room
  start-short short s (e, rest, l) =
      let n = sym (length-append s rest) ∙ ap length l.0 in
      omega (arith, short e)

module _ {W : Type 0} (on : World W) where
  pub data Sort (stage : Stage) (w : W) (xs ys : List ℕ) : Type 0 where
    waiting : (stop_at stage ≡ Stop.Waits → length xs ≤ line_room) → turn_of on stage w xs ≡ waits on stage w → Sort stage w xs ys
    ending : (place : ℕ) → turn_of on stage w xs ≡ ends on w place → turn_of on stage w (xs ++ ys) ≡ ends on w place → Sort stage w xs ys
    going : (turn_of on stage w xs).used ≤ length xs → ((turn_of on stage w xs).used ≡ 0 → ⊥) → turn_of on stage w (xs ++ ys) ≡ turn_of on stage w xs →
        Sort stage w xs ys

  -- the turn of a line of any sort
  module _ {E : Type 0} {render figures : E → List ℕ} {read : List ℕ → LineAnswer E} (lines : Lawful render figures read)
      (short : (e : E) → length (render e) ≤ line_room) (stage : Stage) (w : W) (k : ℕ → E → Turn W) (takes : (n : ℕ) (e : E) → (k n e).used ≡ n)
      (turns : (s : List ℕ) → turn_of on stage w s ≡ line_turn on stage w k (read s)) (xs ys : List ℕ) where
    turn_is : (s : List ℕ) (o : LineAnswer E) → read s ≡ o → turn_of on stage w s ≡ line_turn on stage w k o
    turn_is s o e = turns s ∙ ap (line_turn on stage w k) e

    line_sort : (o : LineAnswer E) → read xs ≡ o → Right (LineOf render figures) xs o → Sort stage w xs ys
    line_sort (whole e n) q r =
        let t : turn_of on stage w xs ≡ k n e = turn_is xs (whole e n) q in
        let u : (turn_of on stage w xs).used ≡ n = ap (λ (x : Turn W). x.used) t ∙ takes n e in
        going (rw u r.0) (λ z. some lines xs e n r (sym u ∙ z)) (turn_is (xs ++ ys) (whole e n) (stays lines xs ys (whole e n) (not-whole refl) r) ∙ sym t)
    line_sort unfinished q r = waiting (λ _. start-short lines short xs r.0) (turn_is xs unfinished q)
    line_sort (wrong n) q r =
        ending n (turn_is xs (wrong n) q) (turn_is (xs ++ ys) (wrong n) (stays lines xs ys (wrong n) (not-wrong refl) r))

  pub sort : (stage : Stage) (w : W) (xs ys : List ℕ) → Sort stage w xs ys
  sort Stage.Awaiting w xs ys =
      line_sort settings-lines settings-short Stage.Awaiting w (λ n g. open_turn on w n (opening_of g)) (λ n g. refl) (λ s. refl) xs ys
      (read_settings xs) refl (settings-lines.right xs)
  sort Stage.Trading w xs ys =
      line_sort event-lines event-short Stage.Trading w (apply_turn on w) (λ n e. refl) (λ s. refl) xs ys (read_event xs) refl (event-lines.right xs)
  sort Stage.Over w xs ys = waiting (λ s. absurd (not-waits s)) refl

  -- the line of an accepted event is saved, all of it, and that of a refused one is not
  module _ (w : W) (bytes : List ℕ) (e : Event) (n : ℕ) (q : read_event bytes ≡ whole e n) where
    saves_by_lem : (v : Verdict) → on.verdict w e ≡ v → (turn_of on Stage.Trading w bytes).saves ≡ saves_by v n
    saves_by_lem v h = ap (λ (o : LineAnswer Event). (event_turn on w o).saves) q ∙ ap (λ (x : Verdict). saves_by x n) h

    pub accepted-saved : on.verdict w e ≡ Ok tt → (turn_of on Stage.Trading w bytes).saves ≡ n
    accepted-saved h = saves_by_lem (Ok tt) h

    pub refused_unsaved : (r : Refusal) → on.verdict w e ≡ Err r → (turn_of on Stage.Trading w bytes).saves ≡ 0
    refused_unsaved r h = saves_by_lem (Err r) h

  -- where there are no bytes, no line is taken
  pub turn_none : (stage : Stage) (w : W) → turn_of on stage w [] ≡ waits on stage w
  turn_none Stage.Awaiting w = ap (settings_turn on w) settings-lines.none
  turn_none Stage.Trading w = ap (event_turn on w) event-lines.none
  turn_none Stage.Over w = refl

  module _ (stage : Stage) (w : W) (xs : List ℕ) where
    abbrev t : Turn W
    t = turn_of on stage w xs

    -- no more bytes are saved than are taken
    pub turn_saves : t.saves ≤ t.used
    turn_saves = by-stage stage
      where
        by_verdict : (v : Verdict) (n : ℕ) → saves_by v n ≤ n
        by_verdict (Ok _) n = omega arith
        by_verdict (Err r) n = omega arith

        by_settings : (o : LineAnswer Settings) → (settings_turn on w o).saves ≤ (settings_turn on w o).used
        by_settings (whole g n) = by_verdict (opening_of g).verdict n
        by_settings unfinished = omega arith
        by_settings (wrong n) = omega arith

        by_event : (o : LineAnswer Event) → (event_turn on w o).saves ≤ (event_turn on w o).used
        by_event (whole e n) = by_verdict (on.verdict w e) n
        by_event unfinished = omega arith
        by_event (wrong n) = omega arith

        by-stage : (s : Stage) → (turn_of on s w xs).saves ≤ (turn_of on s w xs).used
        by-stage Stage.Awaiting = by_settings (read_settings xs)
        by-stage Stage.Trading = by_event (read_event xs)
        by-stage Stage.Over = omega arith

    -- no more bytes are taken than are there
    pub turn_within : t.used ≤ length xs
    turn_within = go (sort stage w xs [])
      where
        go : Sort stage w xs [] → t.used ≤ length xs
        go (waiting h e) = rw e (omega arith)
        go (ending n e l) = rw e (omega arith)
        go (going h u l) = h

    -- where a run waits, its bytes are the start of a line, for which nothing is printed
    pub turn_waits : t.used ≡ 0 → stop_at t.stage ≡ Stop.Waits → (length t.text ≡ 0) × (length xs ≤ line_room)
    turn_waits u s = go (sort stage w xs [])
      where
        go : Sort stage w xs [] → (length t.text ≡ 0) × (length xs ≤ line_room)
        go (waiting h e) = (ap (λ (x : Turn W). length x.text) e, h (rw e at s))
        go (ending n e l) = absurd (not-waits (rw e at s))
        go (going h n l) = absurd (n u)
