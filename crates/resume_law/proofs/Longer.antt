-- Event lines with more bytes behind them: a whole line stays whole, and a bad one bad.
use Prim.Native.Nat.{ℕ, zero, suc, ◌+◌, ◌≤◌}
use native.Mathlib.Omega.{arith}
use native.Mathlib.Nat.{add_assoc}
use mathlib.Core.Path.{◌≡◌, refl, sym, ap, ◌∙◌, subst}
use mathlib.Core.Bool.{Bool, true}
use mathlib.Core.List.{List, ◌++◌}
use lib.ListN.{length, drop, length-drop}
use lib.Seq.{drop-append-le, drop-drop}
use Rattle.std.specs.Prelude.{Ok, Err}
use Rattle.terms.specs.declared.Event.{Event}
use Rattle.terms.specs.declared.Refusal.{Refusal}
use Rattle.terms.specs.declared.Refusal.TheVariants.{LineWrong, LineRefused}
use Rattle.terms.specs.Refusals.{Verdict}
use Rattle.lines_text_law.specs.Grammar.{LineAnswer, whole, unfinished, wrong}
use Rattle.lines_text_law.specs.Reading.{Right}
use Rattle.lines_reading_law.specs.Lines.{EventLine}
use Rattle.lines_reading_law.specs.Answers.{read_event}
use Rattle.lines_text_law.proofs.Sorts as sorts
use Rattle.lines_reading_law.proofs.EventLines.{event-lines}
use Rattle.state_law.specs.Day.{Day}
use Rattle.soundness_law.specs.Sound.{sound}
use Rattle.engine_law.specs.Outcome.{outcome}
use Rattle.engine_law.proofs.Kept.{accepted-sound}
use Rattle.resume_law.specs.Answers.{Comeback, SavedLine, bad_at}
use Rattle.resume_law.specs.declared.Halt.{Halt}
use Rattle.resume_law.specs.Rebuilt.{Rebuilt, rebuilt, refused, Step, step_of, used_by, on_line, lines_from}
use Rattle.resume_law.specs.Pieces.{tells_bad, unmoved}
use Rattle.resume_law.proofs.Lines.{line-applied, line_refused, line-unfinished, line_wrong}
use Rattle.resume_law.proofs.Finds.{none_left}

-- ---- a whole line and a wrong one, and what is read with more bytes behind them

module _ (xs : List ℕ) where
  right-at : (o : LineAnswer Event) → read_event xs ≡ o → Right EventLine xs o
  right-at o q = rw q at (event-lines.right xs)

  stays_whole : (e : Event) (m : ℕ) → read_event xs ≡ whole e m → (ys : List ℕ) → read_event (xs ++ ys) ≡ whole e m
  stays_whole e m q ys = sorts.stays event-lines xs ys (whole e m) (sorts.not-whole refl) (right-at (whole e m) q)

  stays_wrong : (m : ℕ) → read_event xs ≡ wrong m → (ys : List ℕ) → read_event (xs ++ ys) ≡ wrong m
  stays_wrong m q ys = sorts.stays event-lines xs ys (wrong m) (sorts.not-wrong refl) (right-at (wrong m) q)

  line-within : (e : Event) (m : ℕ) → read_event xs ≡ whole e m → m ≤ length xs
  line-within e m q = (right-at (whole e m) q).0

  -- behind a whole line there are fewer bytes
  fewer : (e : Event) (m n : ℕ) → read_event xs ≡ whole e m → length xs ≤ suc n → length (drop m xs) ≤ n
  fewer e m n q h =
      let l = length-drop m xs in
      let s : m ≡ 0 → ⊥ = sorts.some event-lines xs e m (right-at (whole e m) q) in
      omega (arith, s, line-within e m q)

  none-unfinished : length xs ≤ 0 → read_event xs ≡ unfinished
  none-unfinished h = ap read_event (none_left xs h) ∙ event-lines.none

-- ---- a number of lines that is enough is as good as any other

abbrev SameFuel : ℕ → ℕ → Type 0
SameFuel n k = (at : ℕ) (moved : Bool) (d : Day) (bytes : List ℕ) → length bytes ≤ n → length bytes ≤ k → lines_from n at moved d bytes ≡ lines_from k at moved d bytes

module _ (at : ℕ) (moved : Bool) (d : Day) (bytes : List ℕ) where
  both_end : (n k : ℕ) → read_event bytes ≡ unfinished → lines_from n at moved d bytes ≡ lines_from k at moved d bytes
  both_end n k q = line-unfinished at moved d bytes n q ∙ sym (line-unfinished at moved d bytes k q)

  module _ (n k : ℕ) (again : SameFuel n k) (h : length bytes ≤ suc n) (j : length bytes ≤ suc k) where
    fuel_judged : (e : Event) (m : ℕ) → read_event bytes ≡ whole e m → (v : Verdict) → (outcome d e).verdict ≡ v →
        lines_from (suc n) at moved d bytes ≡ lines_from (suc k) at moved d bytes
    fuel_judged e m q (Ok _) v =
        line-applied at moved d bytes n e m q v
        ∙ again (at + m) true (outcome d e).day (drop m bytes) (fewer bytes e m n q h) (fewer bytes e m k q j)
        ∙ sym (line-applied at moved d bytes k e m q v)
    fuel_judged e m q (Err r) v = line_refused at moved d bytes n e m r q v ∙ sym (line_refused at moved d bytes k e m r q v)

    fuel_read : (o : LineAnswer Event) → read_event bytes ≡ o → lines_from (suc n) at moved d bytes ≡ lines_from (suc k) at moved d bytes
    fuel_read (whole e m) q = fuel_judged e m q (outcome d e).verdict refl
    fuel_read unfinished q = both_end (suc n) (suc k) q
    fuel_read (wrong m) q = line_wrong at moved d bytes n m q ∙ sym (line_wrong at moved d bytes k m q)

pub same_fuel : (n k : ℕ) → SameFuel n k
same_fuel zero k at moved d bytes h j = both_end at moved d bytes zero k (none-unfinished bytes h)
same_fuel (suc n) zero at moved d bytes h j = both_end at moved d bytes (suc n) zero (none-unfinished bytes j)
same_fuel (suc n) (suc k) at moved d bytes h j = fuel_read at moved d bytes n k (same_fuel n k) h j (read_event bytes) refl

-- ---- some bytes, and what they come back as with more behind them

abbrev Of : ℕ → Bool → Day → List ℕ → Rebuilt
Of at moved d bytes = lines_from (length bytes) at moved d bytes

-- one more line may be looked for
spare : (at : ℕ) (moved : Bool) (d : Day) (bytes : List ℕ) → Of at moved d bytes ≡ lines_from (suc (length bytes)) at moved d bytes
spare at moved d bytes = same_fuel (length bytes) (suc (length bytes)) at moved d bytes (omega arith) (omega arith)

-- they are the start of a line; or lines are taken, with a sound day behind them, and the start of a line is left; or one is bad, at a place in them
pub data Passes (at : ℕ) (moved : Bool) (d : Day) (xs : List ℕ) : Rebuilt → Type 0 where
  short : read_event xs ≡ unfinished → Passes at moved d xs (rebuilt at moved d)
  goes : (used : ℕ) (d' : Day) → sound d' ≡ true → used ≤ length xs → read_event (drop used xs) ≡ unfinished →
      ((ys : List ℕ) → Of at moved d (xs ++ ys) ≡ Of (at + used) true d' (drop used xs ++ ys)) → Passes at moved d xs (rebuilt (at + used) true d')
  bad : (r : Refusal) (place : ℕ) → tells_bad (bad_at r place) ≡ true → place ≤ at + length xs → ((ys : List ℕ) → Of at moved d (xs ++ ys) ≡ refused r place) → Passes at moved d xs (refused r place)

abbrev All : ℕ → Type 0
All n = (at : ℕ) (moved : Bool) (d : Day) (xs : List ℕ) → length xs ≤ n → Passes at moved d xs (lines_from n at moved d xs)

module _ (at : ℕ) (moved : Bool) (d : Day) (xs : List ℕ) where
  found : {x y : Rebuilt} → x ≡ y → Passes at moved d xs y → Passes at moved d xs x
  found e p = subst (Passes at moved d xs) (sym e) p

  module _ (e : Event) (m : ℕ) (q : read_event xs ≡ whole e m) (v : (outcome d e).verdict ≡ Ok tt) where
    abbrev next : Day
    next = (outcome d e).day

    step : (ys : List ℕ) → Of at moved d (xs ++ ys) ≡ Of (at + m) true next (drop m xs ++ ys)
    step ys =
        let all : List ℕ = xs ++ ys in
        let l = length-drop m all in
        let cut : drop m all ≡ drop m xs ++ ys = drop-append-le m xs ys (line-within xs e m q) in
        spare at moved d all
        ∙ line-applied at moved d all (length all) e m (stays_whole xs e m q ys) v
        ∙ same_fuel (length all) (length (drop m all)) (at + m) true next (drop m all) (omega arith) (omega arith)
        ∙ ap (Of (at + m) true next) cut

    -- what the bytes behind the line come to
    onward : {x : Rebuilt} → Passes (at + m) true next (drop m xs) x → Passes at moved d xs x
    onward (short u) = goes m next (accepted-sound d e v) (line-within xs e m q) u step
    onward (goes used d' s h u f) =
        let w : m ≤ length xs = line-within xs e m q in
        let l = length-drop m xs in
        let dd : drop used (drop m xs) ≡ drop (m + used) xs = drop-drop used m xs in
        let aa : at + m + used ≡ at + (m + used) = add_assoc at m used in
        subst (λ (n : ℕ). Passes at moved d xs (rebuilt n true d')) (sym aa)
        (goes (m + used) d' s (omega arith) (ap read_event (sym dd) ∙ u)
        (λ ys. step ys ∙ f ys ∙ (λ i. Of (aa i) true d' (dd i ++ ys))))
    onward (bad r place t h f) =
        let w : m ≤ length xs = line-within xs e m q in
        let l = length-drop m xs in
        bad r place t (omega arith) (λ ys. step ys ∙ f ys)

  module _ (n : ℕ) (again : All n) (h : length xs ≤ suc n) where
    passes_judged : (e : Event) (m : ℕ) → read_event xs ≡ whole e m → (v : Verdict) → (outcome d e).verdict ≡ v → Passes at moved d xs (lines_from (suc n) at moved d xs)
    passes_judged e m q (Ok _) v =
        found (line-applied at moved d xs n e m q v) (onward e m q v (again (at + m) true (outcome d e).day (drop m xs) (fewer xs e m n q h)))
    passes_judged e m q (Err r) v =
        found (line_refused at moved d xs n e m r q v)
        (bad LineRefused at refl (omega arith) (λ ys. spare at moved d (xs ++ ys) ∙ line_refused at moved d (xs ++ ys) (length (xs ++ ys)) e m r (stays_whole xs e m q ys) v))

    passes_read : (o : LineAnswer Event) → read_event xs ≡ o → Passes at moved d xs (lines_from (suc n) at moved d xs)
    passes_read (whole e m) q = passes_judged e m q (outcome d e).verdict refl
    passes_read unfinished q = found (line-unfinished at moved d xs (suc n) q) (short q)
    passes_read (wrong m) q =
        found (line_wrong at moved d xs n m q)
        (bad LineWrong (at + m) refl (omega (arith, (right-at xs (wrong m) q).0)) (λ ys. spare at moved d (xs ++ ys) ∙ line_wrong at moved d (xs ++ ys) (length (xs ++ ys)) m (stays_wrong xs m q ys)))

pub passes : (n : ℕ) → All n
passes zero at moved d xs h =
    let q = none-unfinished xs h in
    found at moved d xs (line-unfinished at moved d xs zero q) (short q)
passes (suc n) at moved d xs h = passes_read at moved d xs n (passes n) h (read_event xs) refl

-- ---- places count from the first byte of all pieces

abbrev pub later : ℕ → Comeback → Comeback
later b (Ok n) = Ok (b + n)
later b (Err e) = bad_at e.refusal (b + e.place)

abbrev pub later_by : ℕ → Rebuilt → Rebuilt
later_by b x = record { answer = later b x.answer; moved = x.moved; day = x.day }

line-later : (b : ℕ) (l : SavedLine) (at : ℕ) (moved : Bool) (d : Day) (more : Rebuilt) → on_line l (b + at) moved d (later_by b more) ≡ later_by b (on_line l at moved d more)
line-later b (Ok n) at moved d more = refl
line-later b (Err Halt.Refused) at moved d more = refl
line-later b (Err Halt.Unfinished) at moved d more = refl
line-later b (Err (Halt.Wrong n)) at moved d more = ap (refused LineWrong) (add_assoc b at n)

pub lines-later : (b n at : ℕ) (moved : Bool) (d : Day) (bytes : List ℕ) → lines_from n (b + at) moved d bytes ≡ later_by b (lines_from n at moved d bytes)
unfolding lines_from
lines-later b zero at moved d bytes = refl
lines-later b (suc n) at moved d bytes =
    let t : Step = step_of d (read_event bytes) in
    let u : ℕ = used_by t.line in
    ap (on_line t.line (b + at) moved d)
    (ap (λ (m : ℕ). lines_from n m true t.day (drop u bytes)) (add_assoc b at u) ∙ lines-later b n (at + u) true t.day (drop u bytes))
    ∙ line-later b t.line at moved d _

-- ---- whether an event was among the lines before changes neither answer nor day

line-unmoved : (l : SavedLine) (at : ℕ) (m m' : Bool) (d : Day) (more : Rebuilt) → unmoved (on_line l at m d more) ≡ unmoved (on_line l at m' d more)
line-unmoved (Ok n) at m m' d more = refl
line-unmoved (Err Halt.Refused) at m m' d more = refl
line-unmoved (Err Halt.Unfinished) at m m' d more = refl
line-unmoved (Err (Halt.Wrong n)) at m m' d more = refl

pub lines-unmoved : (n at : ℕ) (m m' : Bool) (d : Day) (bytes : List ℕ) → unmoved (lines_from n at m d bytes) ≡ unmoved (lines_from n at m' d bytes)
unfolding lines_from
lines-unmoved zero at m m' d bytes = refl
lines-unmoved (suc n) at m m' d bytes = line-unmoved (step_of d (read_event bytes)).line at m m' d _
