-- The saved lines of an accepted run, cut after any byte, come back as the settings and all whole events.
use Prim.Native.Nat.{ℕ, zero, suc, ◌+◌, ◌-◌, ◌≤◌, ◌<◌}
use native.Mathlib.Omega.{arith}
use mathlib.Core.Path.{◌≡◌, refl, sym, ap, ◌∙◌}
use mathlib.Core.List.{List, [], ◌∷◌, ◌++◌, append_assoc}
use lib.ListN.{length, take, length-append}
use lib.Seq.{take-append-le, take-append-add}
use lib.Dec.{leb}
use borrow.Author.Tests.{leb-true, leb-false, le-leb, lt-leb}
use Rattle.terms.specs.declared.Event.{Event}
use Rattle.terms.proofs.Logic.{cases}
use Rattle.terms.specs.Numbers.{Writable}
use Rattle.lines_text_law.specs.Grammar.{unfinished}
use Rattle.lines_reading_law.specs.Lines.{event_figures, render_event, render_settings}
use Rattle.lines_reading_law.specs.Answers.{read_event}
use Rattle.lines_text_law.proofs.Sorts as sorts
use Rattle.lines_reading_law.proofs.EventLines.{event-lines}
use Rattle.lines_reading_law.proofs.SettingsLines.{settings-lines}
use Rattle.state_law.specs.Day.{Day, opened}
use Rattle.engine_law.specs.Outcome.{outcome}
use Rattle.resume_law.specs.Saved.{event_lines, saved, AllAccepted, whole_in}
use Rattle.resume_law.specs.Rebuilt.{resumed}
use Rattle.resume_law.specs.Comes.{CutComesBack, CutInSettings, Wholes, WholesAreWhole}
use Rattle.resume_law.specs.Comes.FoundAs.{comes_back}
use Rattle.resume_law.proofs.Numbers.{accepted-writable, settings-writable}
use Rattle.resume_law.proofs.Lines.{settled}
use Rattle.resume_law.proofs.Ones.{one_coming}

-- ---- the whole events

module _ (e : Event) (es : List Event) (k : ℕ) where
  pub whole-on : length (render_event e) ≤ k → whole_in k (e ∷ es) ≡ e ∷ whole_in (k - length (render_event e)) es
  unfolding whole_in
  whole-on h = rw (le-leb (length (render_event e)) k h)

  pub whole-off : k < length (render_event e) → whole_in k (e ∷ es) ≡ []
  unfolding whole_in
  whole-off h = rw (lt-leb (length (render_event e)) k h)

-- ---- a run's lines, cut: those of the whole events, and then nothing or the start of a line

record Split (k : ℕ) (es : List Event) : Type 0 where
  tail : List ℕ
  split : take k (event_lines es) ≡ event_lines (whole_in k es) ++ tail
  short : read_event tail ≡ unfinished

take_none : (m : ℕ) → take {A = ℕ} m [] ≡ []
take_none zero = refl
take_none (suc m) = refl

module _ (k : ℕ) (e : Event) (es : List Event) where
  abbrev line : List ℕ
  line = render_event e

  -- a cut behind the first line
  split_on : length line ≤ k → Split (k - length line) es → Split k (e ∷ es)
  unfolding event_lines
  split_on h s =
      let n : k ≡ length line + (k - length line) = omega arith in
      let held : List Event = whole_in (k - length line) es in
      record {
        tail = s.tail;
        split =
            ap (λ (m : ℕ). take m (line ++ event_lines es)) n
            ∙ take-append-add line (event_lines es) (k - length line)
            ∙ ap (λ (x : List ℕ). line ++ x) s.split
            ∙ sym (append_assoc line (event_lines held) s.tail)
            ∙ ap (λ (x : List Event). event_lines x ++ s.tail) (sym (whole-on e es k h));
        short = s.short;
      }

  -- a cut within it
  split_off : Writable (event_figures e) → k < length line → Split k (e ∷ es)
  unfolding event_lines
  split_off w h =
      record {
        tail = take k line;
        split =
            take-append-le k line (event_lines es) (omega arith) ∙ ap (λ (x : List Event). event_lines x ++ take k line) (sym (whole-off e es k h));
        short = sorts.cut event-lines e w k h;
      }

split_at : (d : Day) (k : ℕ) (es : List Event) → AllAccepted d es → Split k es
unfolding whole_in event_lines
split_at d k [] a = record { tail = []; split = take_none k; short = event-lines.none }
split_at d k (e ∷ es) a =
    cases (leb (length (render_event e)) k)
    (λ t. split_on k e es (leb-true (length (render_event e)) k t) (split_at (outcome d e).day (k - length (render_event e)) es a.1))
    (λ t. split_off k e es (accepted-writable d e a.0) (leb-false (length (render_event e)) k t))

accepted-whole : (d : Day) (k : ℕ) (es : List Event) → AllAccepted d es → AllAccepted d (whole_in k es)
unfolding whole_in
accepted-whole d k [] a = tt
accepted-whole d k (e ∷ es) a =
    cases (leb (length (render_event e)) k)
    (λ t. rw t (a.0, accepted-whole (outcome d e).day (k - length (render_event e)) es a.1))
    (λ t. rw t tt)

-- ---- so

pub cut_comes_back : CutComesBack
cut_comes_back g es k v a h =
    let first : List ℕ = render_settings g in
    let m : ℕ = k - length first in
    let n : k ≡ length first + m = omega arith in
    let held : List Event = whole_in m es in
    let s = split_at (opened g) m es a in
    let cut : take k (saved g es) ≡ saved g held ++ s.tail =
    ap (λ (x : ℕ). take x (saved g es)) n
    ∙ take-append-add first (event_lines es) m
    ∙ ap (λ (x : List ℕ). first ++ x) s.split
    ∙ sym (append_assoc first (event_lines held) s.tail) in
    sym (one_coming (take k (saved g es)) _ (comes_back g held s.tail cut v (accepted-whole (opened g) m es a) s.short))

pub cut_in_settings : CutInSettings
cut_in_settings g es k v h =
    ap resumed (take-append-le k (render_settings g) (event_lines es) (omega arith))
    ∙ settled (take k (render_settings g)) _ (sorts.cut settings-lines g (settings-writable g v) k h)

-- ---- what the whole events are

wholes_none : (n : ℕ) → Wholes n []
unfolding whole_in event_lines
wholes_none n = record { later = []; first = refl; within = omega arith; most = λ e rest q. absurd (let z : ◌≡◌ {A = ℕ} 0 1 = cc in omega arith) }

module _ (n : ℕ) (e : Event) (es : List Event) where
  abbrev size : ℕ
  size = length (render_event e)

  -- the line is whole
  wholes_on : size ≤ n → Wholes (n - size) es → Wholes n (e ∷ es)
  unfolding event_lines
  wholes_on h w =
      let held : List Event = whole_in (n - size) es in
      let l = length-append (render_event e) (event_lines held) in
      record {
        later = w.later;
        first = rw (whole-on e es n h) (ap (λ (x : List Event). e ∷ x) w.first);
        within = rw (whole-on e es n h) (omega (arith, w.within));
        most = λ f rest q. rw (whole-on e es n h) (omega (arith, w.most f rest q));
      }

  -- or it is not
  wholes_off : n < size → Wholes n (e ∷ es)
  unfolding event_lines
  wholes_off h =
      record {
        later = e ∷ es;
        first = rw (whole-off e es n h) refl;
        within = rw (whole-off e es n h) (omega arith);
        most = λ f rest q. rw (whole-off e es n h) (let s : e ≡ f = cc in rw (← s) (omega arith));
      }

pub wholes_are_whole : WholesAreWhole
wholes_are_whole n [] = wholes_none n
wholes_are_whole n (e ∷ es) =
    cases (leb (length (render_event e)) n)
    (λ t. let j = leb-true (length (render_event e)) n t in wholes_on n e es j (wholes_are_whole (n - length (render_event e)) es))
    (λ t. wholes_off n e es (leb-false (length (render_event e)) n t))
