-- The lines that bytes are found to hold tell what they come back as: accepted lines are gone through, and then the next one decides.
use Prim.Native.Nat.{ℕ, zero, suc, ◌+◌, ◌-◌, ◌≤◌, ◌<◌}
use native.Mathlib.Omega.{arith}
use mathlib.Core.Path.{◌≡◌, refl, sym, ap, ◌∙◌, subst}
use mathlib.Core.Bool.{Bool, true, false}
use mathlib.Core.List.{List, [], ◌∷◌, ◌++◌, append_assoc}
use lib.ListN.{length, take, length-append}
use lib.Seq.{drop-append_seam}
use lib.Dec.{leb}
use borrow.Author.Tests.{leb-true, leb-false}
use Rattle.std.specs.Prelude.{Ok, Err}
use Rattle.terms.specs.declared.Event.{Event}
use Rattle.terms.specs.declared.Settings.{Settings}
use Rattle.terms.specs.declared.Refusal.{Refusal}
use Rattle.terms.specs.declared.Refusal.TheVariants.{LineWrong, LineRefused}
use Rattle.terms.specs.Refusals.{Verdict}
use Rattle.terms.specs.Settings.{settings_verdict}
use Rattle.terms.proofs.Logic.{cases}
use Rattle.lines_text_law.specs.Grammar.{whole, unfinished, wrong}
use Rattle.lines_text_law.specs.Reading.{Right}
use Rattle.lines_reading_law.specs.Lines.{render_event, render_settings, EventLine, SettingsLine}
use Rattle.lines_reading_law.specs.Answers.{read_event, read_settings}
use Rattle.lines_text_law.proofs.Sorts as sorts
use Rattle.lines_reading_law.proofs.EventLines.{event-lines}
use Rattle.lines_reading_law.proofs.SettingsLines.{settings-lines}
use Rattle.state_law.specs.Day.{Day, opened}
use Rattle.engine_law.specs.Outcome.{outcome, after}
use Rattle.resume_law.specs.Saved.{event_lines, saved, any_event, AllAccepted}
use Rattle.resume_law.specs.Rebuilt.{rebuilt, refused, lines_from, trading_by, resumed}
use Rattle.resume_law.specs.Comes.{OneComing}
use Rattle.resume_law.specs.Comes.FoundAs.{settings_unfinished, settings_wrong, settings_refused, comes_back, line_wrong, line_refused}
use Rattle.resume_law.proofs.Numbers.{accepted-writable, settings-writable}
use Rattle.resume_law.proofs.Lines as lines
use Rattle.resume_law.proofs.Lines.{line-applied, line-unfinished, settled}

-- ---- a line has a byte

line-some : (e : Event) (line : List ℕ) → EventLine e line → 0 < length line
line-some e line l =
    cases (leb 1 (length line)) (λ h. leb-true 1 _ h)
    (λ h.
    let z : length line ≡ 0 = omega (arith, leb-false 1 (length line) h) in
    absurd (sorts.some event-lines line e 0 (omega arith, subst (EventLine e) (sym (none-taken line z)) l) refl))
  where
    none-taken : (x : List ℕ) → length x ≡ 0 → take 0 x ≡ x
    none-taken [] z = refl
    none-taken (b ∷ x) z = absurd (let q : suc (length x) ≡ 0 = z in omega arith)

read_line : (e : Event) (line rest : List ℕ) → EventLine e line → read_event (line ++ rest) ≡ whole e (length line)
read_line e line rest l =
    ap (λ (x : List ℕ). read_event (x ++ rest)) l.0 ∙ event-lines.back e rest l.1 ∙ ap (λ (x : List ℕ). whole e (length x)) (sym l.0)

-- ---- accepted lines are gone through

-- whether an event has come, with those that follow
abbrev or_some : Bool → List Event → Bool
or_some moved [] = moved
or_some moved (e ∷ es) = true

record Through (n at : ℕ) (moved : Bool) (d : Day) (es : List Event) (tail : List ℕ) : Type 0 where
  fuel : ℕ
  enough : length tail ≤ fuel
  same : lines_from n at moved d (event_lines es ++ tail) ≡ lines_from fuel (at + length (event_lines es)) (or_some moved es) (after d es) tail

still_some : (es : List Event) → or_some true es ≡ true
still_some [] = refl
still_some (e ∷ es) = refl

module _ (n at : ℕ) (moved : Bool) (d : Day) (e : Event) (es : List Event) (tail : List ℕ) (v : (outcome d e).verdict ≡ Ok tt) where
  abbrev line : List ℕ
  line = render_event e

  abbrev rest : List ℕ
  rest = event_lines es ++ tail

  all_is : event_lines (e ∷ es) ++ tail ≡ line ++ rest
  unfolding event_lines
  all_is = append_assoc line (event_lines es) tail

  on_line_lem : lines_from (suc n) at moved d (event_lines (e ∷ es) ++ tail) ≡ lines_from n (at + length line) true (outcome d e).day rest
  on_line_lem =
      ap (lines_from (suc n) at moved d) all_is
      ∙ line-applied at moved d (line ++ rest) n e (length line) (event-lines.back e rest (accepted-writable d e v)) v
      ∙ ap (lines_from n (at + length line) true (outcome d e).day) (drop-append_seam line rest)

  through_on : Through n (at + length line) true (outcome d e).day es tail → Through (suc n) at moved d (e ∷ es) tail
  unfolding event_lines after
  through_on t =
      let l : at + length line + length (event_lines es) ≡ at + length (line ++ event_lines es) = omega (arith, length-append line (event_lines es)) in
      record {
        fuel = t.fuel;
        enough = t.enough;
        same = on_line_lem ∙ t.same ∙ (λ i. lines_from t.fuel (l i) (still_some es i) (after (outcome d e).day es) tail);
      }

  longer : length (event_lines (e ∷ es) ++ tail) ≡ length line + length rest
  longer = ap length all_is ∙ length-append line rest

  byte : 0 < length line
  byte = line-some e line (refl, accepted-writable d e v)

through : (n at : ℕ) (moved : Bool) (d : Day) (es : List Event) (tail : List ℕ) → AllAccepted d es → length (event_lines es ++ tail) ≤ n →
    Through n at moved d es tail
unfolding event_lines after
through n at moved d [] tail a h =
    let z : at ≡ at + 0 = omega arith in
    record { fuel = n; enough = h; same = ap (λ (m : ℕ). lines_from n m moved d tail) z }
through zero at moved d (e ∷ es) tail a h =
    absurd (omega (arith, longer 0 at moved d e es tail a.0, byte 0 at moved d e es tail a.0))
through (suc n) at moved d (e ∷ es) tail a h =
    through_on n at moved d e es tail a.0
    (through n (at + length (render_event e)) true (outcome d e).day es tail a.1
    (omega (arith, longer n at moved d e es tail a.0, byte n at moved d e es tail a.0)))

-- ---- settings that pass, and accepted lines

false_some : (es : List Event) → or_some false es ≡ any_event es
false_some [] = refl
false_some (e ∷ es) = refl

record Reached (bytes : List ℕ) (g : Settings) (es : List Event) (tail : List ℕ) : Type 0 where
  fuel : ℕ
  enough : length tail ≤ fuel
  same : resumed bytes ≡ lines_from fuel (length (saved g es)) (any_event es) (after (opened g) es) tail

opens : (g : Settings) (rest : List ℕ) → settings_verdict g ≡ Ok tt →
    resumed (render_settings g ++ rest) ≡ lines_from (length (render_settings g ++ rest)) (length (render_settings g)) false (opened g) rest
opens g rest v =
    let bytes : List ℕ = render_settings g ++ rest in
    let n : ℕ = length (render_settings g) in
    settled bytes _ (settings-lines.back g rest (settings-writable g v))
    ∙ ap (λ (x : Verdict). trading_by x g n bytes) v
    ∙ ap (lines_from (length bytes) n false (opened g)) (drop-append_seam (render_settings g) rest)

reached : (bytes : List ℕ) (g : Settings) (es : List Event) (tail : List ℕ) → bytes ≡ saved g es ++ tail → settings_verdict g ≡ Ok tt →
    AllAccepted (opened g) es → Reached bytes g es tail
reached bytes g es tail q v a =
    let first : List ℕ = render_settings g in
    let rest : List ℕ = event_lines es ++ tail in
    let all : bytes ≡ first ++ rest = q ∙ append_assoc first (event_lines es) tail in
    let t : Through (length (first ++ rest)) (length first) false (opened g) es tail =
    through (length (first ++ rest)) (length first) false (opened g) es tail a (omega (arith, length-append first rest)) in
    record {
      fuel = t.fuel;
      enough = t.enough;
      same =
          ap resumed all
          ∙ opens g rest v
          ∙ t.same
          ∙ (λ i. lines_from t.fuel (sym (length-append first (event_lines es)) i) (false_some es i) (after (opened g) es) tail);
    }

-- ---- the next line decides

module _ (bytes : List ℕ) (g : Settings) (es : List Event) (tail : List ℕ) (k : Reached bytes g es tail) where
  abbrev at : ℕ
  at = length (saved g es)

  abbrev d : Day
  d = after (opened g) es

  -- where there is a byte, a line is read
  reads : 0 < length tail → resumed bytes ≡ lines_from (suc (k.fuel - 1)) at (any_event es) d tail
  reads h =
      let n : k.fuel ≡ suc (k.fuel - 1) = omega (arith, k.enough) in
      k.same ∙ ap (λ (m : ℕ). lines_from m at (any_event es) d tail) n

  ends_here : read_event tail ≡ unfinished → rebuilt at (any_event es) d ≡ resumed bytes
  ends_here u = sym (k.same ∙ line-unfinished at (any_event es) d tail k.fuel u)

  wrong_here : (n : ℕ) → read_event tail ≡ wrong n → refused LineWrong (at + n) ≡ resumed bytes
  wrong_here n u =
      let r : Right EventLine tail (wrong n) = rw u at (event-lines.right tail) in
      sym (reads (omega (arith, r.0)) ∙ lines.line_wrong at (any_event es) d tail (k.fuel - 1) n u)

  refused_here : (e : Event) (line rest : List ℕ) (r : Refusal) → tail ≡ line ++ rest → EventLine e line → (outcome d e).verdict ≡ Err r →
      refused LineRefused at ≡ resumed bytes
  refused_here e line rest r q l w =
      let some_byte : 0 < length tail = omega (arith, ap length q, length-append line rest, line-some e line l) in
      sym
      (reads some_byte ∙ lines.line_refused at (any_event es) d tail (k.fuel - 1) e (length line) r (ap read_event q ∙ read_line e line rest l) w)

settings-stop : (bytes : List ℕ) (g : Settings) (line rest : List ℕ) (r : Refusal) → bytes ≡ line ++ rest → SettingsLine g line → settings_verdict g ≡ Err r →
    refused LineRefused 0 ≡ resumed bytes
settings-stop bytes g line rest r q l v =
    let read : read_settings bytes ≡ whole g (length (render_settings g)) =
    ap read_settings (q ∙ ap (λ (x : List ℕ). x ++ rest) l.0) ∙ settings-lines.back g rest l.1 in
    sym (settled bytes _ read ∙ ap (λ (x : Verdict). trading_by x g (length (render_settings g)) bytes) v)

pub one_coming : OneComing
one_coming bytes x (settings_unfinished q) = sym (settled bytes _ q)
one_coming bytes x (settings_wrong n q) = sym (settled bytes _ q)
one_coming bytes x (settings_refused g line rest r q l v) = settings-stop bytes g line rest r q l v
one_coming bytes x (comes_back g es tail q v a u) = ends_here bytes g es tail (reached bytes g es tail q v a) u
one_coming bytes x (line_wrong g es tail n q v a u) = wrong_here bytes g es tail (reached bytes g es tail q v a) n u
one_coming bytes x (line_refused g es e line tail r q l v a w) =
    refused_here bytes g es (line ++ tail) (reached bytes g es (line ++ tail) q v a) e line tail r refl l w
