-- Any bytes: which lines they hold, and the first bad one. The events of any run that are saved replay to the same day.
use Prim.Native.Nat.{ℕ, zero, suc, ◌+◌, ◌≤◌}
use native.Mathlib.Omega.{arith}
use mathlib.Core.Path.{◌≡◌, refl, sym, ap, ◌∙◌, subst}
use mathlib.Core.Bool.{true, false}
use mathlib.Core.List.{List, [], ◌∷◌, ◌++◌, append_assoc, append-nil}
use lib.ListN.{length, take, drop, length-append, length-drop, length-take, take-append-drop}
use Rattle.std.specs.Prelude.{Ok, Err}
use Rattle.terms.specs.declared.Event.{Event}
use Rattle.terms.specs.declared.Settings.{Settings}
use Rattle.terms.specs.declared.Report.{Report}
use Rattle.terms.specs.declared.Refusal.{Refusal}
use Rattle.terms.specs.Refusals.{Verdict}
use Rattle.terms.specs.Settings.{settings_verdict}
use Rattle.lines_text_law.specs.Grammar.{LineAnswer, whole, unfinished, wrong}
use Rattle.lines_reading_law.specs.Lines.{render_event, render_settings, EventLine, SettingsLine}
use Rattle.lines_reading_law.specs.Answers.{read_event, read_settings}
use Rattle.lines_text_law.proofs.Sorts as sorts
use Rattle.lines_reading_law.proofs.EventLines.{event-lines}
use Rattle.lines_reading_law.proofs.SettingsLines.{settings-lines}
use Rattle.state_law.specs.Opening.{fixed_session}
use Rattle.state_law.specs.Day.{Day, opened}
use Rattle.refusal_law.specs.Refusals.{refusal_of}
use Rattle.acts_law.specs.Acts.{act}
use Rattle.acts_law.proofs.Says.{act-moved}
use Rattle.engine_law.specs.Outcome.{decided, outcome, after, told}
use Rattle.engine_law.proofs.Kept.{refused-nothing}
use Rattle.engine_law.proofs.Joined.{after-append}
use Rattle.resume_law.specs.Answers.{bad_at}
use Rattle.resume_law.specs.Saved.{event_lines, saved, any_event, AllAccepted, kept_by, accepted_of}
use Rattle.resume_law.specs.Rebuilt.{Rebuilt, lines_from, trading_by, settled_by, resumed}
use Rattle.resume_law.specs.Comes.{ClockIsLast, Replays, SavedReplays, FoundAs, AnyBytesFound, RefusalKeeps}
use Rattle.resume_law.specs.Comes.FoundAs.{settings_unfinished, settings_wrong, settings_refused, comes_back, line_wrong, line_refused}
use Rattle.resume_law.proofs.Lines.{line-applied, line-unfinished, settled}
use Rattle.resume_law.proofs.Lines as lines

-- ---- events, and one more

pub lines-append : (es more : List Event) → event_lines (es ++ more) ≡ event_lines es ++ event_lines more
unfolding event_lines
lines-append [] more = refl
lines-append (e ∷ es) more =
    ap (λ (x : List ℕ). render_event e ++ x) (lines-append es more) ∙ sym (append_assoc (render_event e) (event_lines es) (event_lines more))

one_line : (e : Event) → event_lines (e ∷ []) ≡ render_event e
unfolding event_lines
one_line e = append-nil (render_event e)

saved-more : (g : Settings) (es : List Event) (e : Event) → saved g (es ++ (e ∷ [])) ≡ saved g es ++ render_event e
saved-more g es e =
    ap (λ (x : List ℕ). render_settings g ++ x) (lines-append es (e ∷ []) ∙ ap (λ (x : List ℕ). event_lines es ++ x) (one_line e))
    ∙ sym (append_assoc (render_settings g) (event_lines es) (render_event e))

accepted-more : (d : Day) (es : List Event) (e : Event) → AllAccepted d es → (outcome (after d es) e).verdict ≡ Ok tt → AllAccepted d (es ++ (e ∷ []))
unfolding after
accepted-more d [] e a v = (v, tt)
accepted-more d (x ∷ es) e a v = (a.0, accepted-more (outcome d x).day es e a.1 v)

some_more : (es : List Event) (e : Event) → any_event (es ++ (e ∷ [])) ≡ true
some_more [] e = refl
some_more (x ∷ es) e = refl

after_more : (d : Day) (es : List Event) (e : Event) → after d (es ++ (e ∷ [])) ≡ (outcome (after d es) e).day
unfolding after
after_more d es e = after-append d es (e ∷ [])

-- ---- any bytes behind the settings

pub none_left : (l : List ℕ) → length l ≤ 0 → l ≡ []
none_left [] h = refl
none_left (x ∷ l) h = absurd (let q : suc (length l) ≤ 0 = h in omega arith)

module _ (bytes : List ℕ) (g : Settings) (v : settings_verdict g ≡ Ok tt) where
  abbrev From : ℕ → List Event → List ℕ → Rebuilt
  From n es rest = lines_from n (length (saved g es)) (any_event es) (after (opened g) es) rest

  record At (es : List Event) (rest : List ℕ) : Type 0 where
    split : bytes ≡ saved g es ++ rest
    accepted : AllAccepted (opened g) es

  found : {x y : Rebuilt} → x ≡ y → FoundAs bytes y → FoundAs bytes x
  found e f = subst (FoundAs bytes) (sym e) f

  module _ (es : List Event) (rest : List ℕ) (here : At es rest) where
    ends : (n : ℕ) → read_event rest ≡ unfinished → FoundAs bytes (From n es rest)
    ends n q =
        found (line-unfinished (length (saved g es)) (any_event es) (after (opened g) es) rest n q)
        (comes_back g es rest here.split v here.accepted q)

    bad : (n m : ℕ) → read_event rest ≡ wrong m → FoundAs bytes (From (suc n) es rest)
    bad n m q =
        found (lines.line_wrong (length (saved g es)) (any_event es) (after (opened g) es) rest n m q)
        (line_wrong g es rest m here.split v here.accepted q)

    module _ (e : Event) (m : ℕ) (q : read_event rest ≡ whole e m) where
      read : (m ≤ length rest) × EventLine e (take m rest)
      read = rw q at (event-lines.right rest)

      rest_is : rest ≡ render_event e ++ drop m rest
      rest_is = sym (take-append-drop m rest) ∙ ap (λ (x : List ℕ). x ++ drop m rest) read.1.0

      size : m ≡ length (render_event e)
      size = let l = length-take m rest in let s : length (take m rest) ≡ length (render_event e) = ap length read.1.0 in omega (arith, read.0)

      stopped : (n : ℕ) (r : Refusal) → (outcome (after (opened g) es) e).verdict ≡ Err r → FoundAs bytes (From (suc n) es rest)
      stopped n r w =
          found (lines.line_refused (length (saved g es)) (any_event es) (after (opened g) es) rest n e m r q w)
          (line_refused g es e (take m rest) (drop m rest) r (here.split ∙ ap (λ (x : List ℕ). saved g es ++ x) (sym (take-append-drop m rest))) read.1 v here.accepted w)

      next : (outcome (after (opened g) es) e).verdict ≡ Ok tt → At (es ++ (e ∷ [])) (drop m rest)
      next w =
          record {
            split =
                here.split
                ∙ ap (λ (x : List ℕ). saved g es ++ x) rest_is
                ∙ sym (append_assoc (saved g es) (render_event e) (drop m rest))
                ∙ ap (λ (x : List ℕ). x ++ drop m rest) (sym (saved-more g es e));
            accepted = accepted-more (opened g) es e here.accepted w;
          }

      place : length (saved g es) + m ≡ length (saved g (es ++ (e ∷ [])))
      place =
          let l = length-append (saved g es) (render_event e) in
          omega (arith, ap length (saved-more g es e), size)

      onward : (n : ℕ) → (outcome (after (opened g) es) e).verdict ≡ Ok tt → From (suc n) es rest ≡ From n (es ++ (e ∷ [])) (drop m rest)
      onward n w =
          line-applied (length (saved g es)) (any_event es) (after (opened g) es) rest n e m q w
          ∙ (λ i. lines_from n (place i) (sym (some_more es e) i) (sym (after_more (opened g) es e) i) (drop m rest))

      shorter : (n : ℕ) → length rest ≤ suc n → length (drop m rest) ≤ n
      shorter n h =
          let l = length-drop m rest in
          let s : m ≡ 0 → ⊥ = sorts.some event-lines rest e m read in
          omega (arith, s)

  -- all bytes left, of which there are at most n
  abbrev All : ℕ → Type 0
  All n = (es : List Event) (rest : List ℕ) → At es rest → length rest ≤ n → FoundAs bytes (From n es rest)

  module _ (n : ℕ) (again : All n) (es : List Event) (rest : List ℕ) (here : At es rest) (h : length rest ≤ suc n) where
    by_verdict : (e : Event) (m : ℕ) → read_event rest ≡ whole e m → (w : Verdict) → (outcome (after (opened g) es) e).verdict ≡ w →
        FoundAs bytes (From (suc n) es rest)
    by_verdict e m q (Ok _) w =
        found (onward es rest here e m q n w)
        (again (es ++ (e ∷ [])) (drop m rest) (next es rest here e m q w) (shorter es rest here e m q n h))
    by_verdict e m q (Err r) w = stopped es rest here e m q n r w

    by_read : (o : LineAnswer Event) → read_event rest ≡ o → FoundAs bytes (From (suc n) es rest)
    by_read (whole e m) q = by_verdict e m q (outcome (after (opened g) es) e).verdict refl
    by_read unfinished q = ends es rest here (suc n) q
    by_read (wrong m) q = bad es rest here n m q

  find : (n : ℕ) → All n
  find zero es rest a h = ends es rest a zero (ap read_event (none_left rest h) ∙ event-lines.none)
  find (suc n) es rest a h = by_read n (find n) es rest a h (read_event rest) refl

-- ---- so

module _ (bytes : List ℕ) where
  module _ (g : Settings) (n : ℕ) (q : read_settings bytes ≡ whole g n) where
    head : (n ≤ length bytes) × SettingsLine g (take n bytes)
    head = rw q at (settings-lines.right bytes)

    bytes_are : bytes ≡ render_settings g ++ drop n bytes
    bytes_are = sym (take-append-drop n bytes) ∙ ap (λ (x : List ℕ). x ++ drop n bytes) head.1.0

    length_is : n ≡ length (saved g [])
    unfolding event_lines
    length_is =
        let l = length-take n bytes in
        let s : length (take n bytes) ≡ length (render_settings g) = ap length head.1.0 in
        let z = length-append (render_settings g) [] in
        omega (arith, head.0)

    begins : bytes ≡ saved g [] ++ drop n bytes
    unfolding event_lines
    begins = bytes_are ∙ ap (λ (x : List ℕ). x ++ drop n bytes) (sym (append-nil (render_settings g)))

    by_opening : (v : Verdict) → settings_verdict g ≡ v → FoundAs bytes (trading_by v g n bytes)
    unfolding after
    by_opening (Ok _) v =
        subst (λ (m : ℕ). FoundAs bytes (lines_from (length bytes) m false (opened g) (drop n bytes))) (sym length_is)
        (find bytes g v (length bytes) [] (drop n bytes) (record { split = begins; accepted = tt }) (let l = length-drop n bytes in omega arith))
    by_opening (Err r) v = settings_refused g (take n bytes) (drop n bytes) r (sym (take-append-drop n bytes)) head.1 v

  by_settings : (o : LineAnswer Settings) → read_settings bytes ≡ o → FoundAs bytes (settled_by o bytes)
  by_settings (whole g n) q = by_opening g n q (settings_verdict g) refl
  by_settings unfinished q = settings_unfinished q
  by_settings (wrong n) q = settings_wrong n q

pub any_bytes_found : AnyBytesFound
any_bytes_found bytes = subst (FoundAs bytes) (sym (settled bytes (read_settings bytes) refl)) (by_settings bytes (read_settings bytes) refl)

-- ---- a refusal

keeps : (bytes : List ℕ) (x : Rebuilt) (r : Refusal) (n : ℕ) → FoundAs bytes x → x.answer ≡ bad_at r n → (x.moved ≡ false) × (x.day.session ≡ fixed_session)
keeps bytes x r n (settings_unfinished q) e = (refl, refl)
keeps bytes x r n (settings_wrong m q) e = (refl, refl)
keeps bytes x r n (settings_refused g line rest s q l v) e = (refl, refl)
keeps bytes x r n (comes_back g es tail q v a u) e = absurd (let z : ◌≡◌ {A = ℕ} 0 1 = cc in omega arith)
keeps bytes x r n (line_wrong g es tail m q v a u) e = (refl, refl)
keeps bytes x r n (line_refused g es f line tail s q l v a u) e = (refl, refl)

pub refusal-keeps : RefusalKeeps
refusal-keeps bytes r n e = keeps bytes (resumed bytes) r n (any_bytes_found bytes) e

-- ---- the clock

accepted_time : (d : Day) (e : Event) → (outcome d e).verdict ≡ Ok tt → (outcome d e).day.session.clock.time ≡ e.time
unfolding outcome
accepted_time d e v = go (refusal_of d e) v
  where
    go : (w : Verdict) → (decided w d (act d e)).verdict ≡ Ok tt → (decided w d (act d e)).day.session.clock.time ≡ e.time
    go (Ok _) q = (act-moved d e).time
    go (Err r) q = absurd (let z : ◌≡◌ {A = ℕ} 0 1 = cc in omega arith)

accepted-last : (d : Day) (es : List Event) (e : Event) → AllAccepted d (es ++ (e ∷ [])) → (outcome (after d es) e).verdict ≡ Ok tt
unfolding after
accepted-last d [] e a = a.0
accepted-last d (x ∷ es) e a = accepted-last (outcome d x).day es e a.1

pub clock_is_last : ClockIsLast
clock_is_last d es e a = ap (λ (x : Day). x.session.clock.time) (after_more d es e) ∙ accepted_time (after d es) e (accepted-last d es e a)

-- ---- what is saved of a run

module _ (d : Day) (e : Event) (es : List Event) where
  abbrev Kept : Verdict → Type 0
  Kept v = AllAccepted d (kept_by v e (accepted_of (outcome d e).day es))

  replays_by : (v : Verdict) → (outcome d e).verdict ≡ v → Replays (outcome d e).day es → Replays d (e ∷ es)
  unfolding accepted_of after told
  replays_by (Ok _) v r =
      record {
        accepted = rw v (v, r.accepted);
        same_day = rw v r.same_day;
        same_told = rw v (ap (λ (x : List Report). (outcome d e).reports ++ x) r.same_told);
      }
  replays_by (Err q) v r =
      let n = refused-nothing d e q v in
      record {
        accepted = rw v (subst (λ (x : Day). AllAccepted x (accepted_of (outcome d e).day es)) n.0 r.accepted);
        same_day = rw v (subst (λ (x : Day). after x (accepted_of (outcome d e).day es) ≡ after (outcome d e).day es) n.0 r.same_day);
        same_told =
            rw v
            (subst (λ (x : Day). told x (accepted_of (outcome d e).day es) ≡ told (outcome d e).day es) n.0 r.same_told
            ∙ ap (λ (x : List Report). x ++ told (outcome d e).day es) (sym n.1));
      }

pub saved_replays : SavedReplays
unfolding accepted_of
saved_replays d [] = record { accepted = tt; same_day = refl; same_told = refl }
saved_replays d (e ∷ es) = replays_by d e es (outcome d e).verdict refl (saved_replays (outcome d e).day es)
