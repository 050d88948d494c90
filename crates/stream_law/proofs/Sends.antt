-- A sink stands the same after a text that is sent in parts as after the whole text, and after a cut as after the bytes that stay.
use Prim.Native.Nat.{ℕ, suc, ◌+◌, ◌≤◌, ◌<◌}
use native.Mathlib.Omega.{arith}
use native.Mathlib.Nat.{zero-add, add_assoc}
use mathlib.Core.Path.{◌≡◌, refl, sym, ap, ◌∙◌, subst}
use mathlib.Core.Bool.{Bool, true, false, false≢true, true≢false}
use mathlib.Core.List.{List, [], ◌∷◌, ◌++◌, append-nil}
use lib.ListN.{length, get_or, take, drop, length-append}
use lib.Seq.{drop-drop, drop-length, length-take-le}
use lib.Dec.{eqb}
use Rattle.std.specs.Prelude.{Result, Ok, Err}
use borrow.Author.Tests.{eqb-true, eqb-false, le-leb, lt-leb}
use Rattle.stream_law.specs.declared.Sink.{Sink}
use Rattle.stream_law.specs.declared.Finish.{Finish}
use Rattle.stream_law.specs.declared.Place.{Place}
use Rattle.stream_law.specs.Sinks.{begins, matched_by, matched, Takes, StepsBy, StandsAs, SentAs, is_open, kept_by, mark_of, mark_by, save_mark, show_mark, settled, saved_part, shown_part, passed, ShortAs, CutAs, compared_by, finish_of}
use Rattle.stream_law.specs.Streams.{Tells, Finished, PrintedAs}
use Rattle.stream_law.proofs.Beginnings.{begins_is, begins_self, begins-append, begins-take}

-- ---- the marks

-- what is saved is not taken for what is shown, but where there are no bytes
pub told-apart : (xs ys : List ℕ) → saved_part xs ≡ shown_part ys → (xs ≡ []) × (ys ≡ [])
told-apart [] [] e = (refl, refl)
told-apart [] (y ∷ ys) e = absurd (let z : 0 ≡ suc (suc (length ys)) = ap length e in omega arith)
told-apart (x ∷ xs) [] e = absurd (let z : suc (suc (length (xs ++ settled))) ≡ 0 = ap length e in omega arith)
told-apart (x ∷ xs) (y ∷ ys) e = absurd (let z : save_mark ≡ show_mark = ap (λ (l : List ℕ). get_or l 0 0) e in omega arith)

-- ---- what a step answers, sink by sink

module _ (next : ℕ → Sink) where
  steps_print : (to r : Sink) → to ≡ Sink.Print → Takes r → StepsBy next to r
  steps_print to r e h = rw e h

  steps_match : (to r : Sink) (at : ℕ) → to ≡ Sink.Match at → r ≡ next at → StepsBy next to r
  steps_match to r at e h = rw e h

  stays : (to : Sink) → is_open to ≡ false → StepsBy next to to
  stays Sink.Print e = absurd (true≢false e)
  stays (Sink.Match at) e = absurd (true≢false e)
  stays Sink.Differs e = refl
  stays Sink.Unsaved e = refl
  stays Sink.Lost e = refl

  steps_shut : (to r : Sink) → to ≡ r → is_open r ≡ false → StepsBy next to r
  steps_shut to r e h = subst (λ (s : Sink). StepsBy next s r) (sym e) (stays r h)

kept_takes : {T E : Type 0} (status : Result T E) → Takes (kept_by status)
kept_takes (Ok done) = tt
kept_takes (Err failed) = tt

module _ (expected text : List ℕ) (to r : Sink) where
  pub sent_print : to ≡ Sink.Print → Takes r → SentAs expected to text r
  sent_print e h = record { stands = steps_print (λ at. matched expected at text) to r e h }

  pub sent-kept : {T E : Type 0} (status : Result T E) → to ≡ Sink.Print → r ≡ kept_by status → SentAs expected to text r
  sent-kept status e h = sent_print e (subst Takes (sym h) (kept_takes status))

  pub sent_match : {at : ℕ} → to ≡ Sink.Match at → r ≡ matched expected at text → SentAs expected to text r
  sent_match {at} e h = record { stands = steps_match (λ at. matched expected at text) to r at e h }

  pub sent-shut : to ≡ r → is_open r ≡ false → SentAs expected to text r
  sent-shut e h = record { stands = steps_shut (λ at. matched expected at text) to r e h }

module _ (expected : List ℕ) (n : ℕ) (to r : Sink) where
  pub short-kept : {T E : Type 0} (status : Result T E) → to ≡ Sink.Print → r ≡ kept_by status → ShortAs expected to n r
  short-kept status e h = record { stands = steps_print (λ at. passed expected at n) to r e (subst Takes (sym h) (kept_takes status)) }

  pub short_match : {at : ℕ} → to ≡ Sink.Match at → r ≡ passed expected at n → ShortAs expected to n r
  short_match {at} e h = record { stands = steps_match (λ at. passed expected at n) to r at e h }

  pub short-shut : to ≡ r → is_open r ≡ false → ShortAs expected to n r
  short-shut e h = record { stands = steps_shut (λ at. passed expected at n) to r e h }

pub cut_as : {expected : List ℕ} {to s r : Sink} {n : ℕ} → ShortAs expected to n s → SentAs expected s settled r → CutAs expected to n r
cut_as {s = s} h k = record { short = s; cuts = h; waits = k }

-- the mark of a place
module _ (expected : List ℕ) (place : Place) where
  pub mark_match : {to r : Sink} {at mark : ℕ} → to ≡ Sink.Match at → mark ≡ mark_of place → r ≡ matched expected at (mark ∷ []) →
      r ≡ mark_by expected place to
  mark_match {at = at} e m h = h ∙ ap (λ (b : ℕ). matched expected at (b ∷ [])) m ∙ ap (mark_by expected place) (sym e)

  pub mark_stays : {to s : Sink} → to ≡ s → mark_by expected place s ≡ s → s ≡ mark_by expected place to
  mark_stays e h = sym h ∙ ap (mark_by expected place) (sym e)

  mark-sent : (to : Sink) → SentAs expected to (mark_of place ∷ []) (mark_by expected place to)
  mark-sent Sink.Print = record { stands = tt }
  mark-sent (Sink.Match at) = record { stands = refl }
  mark-sent Sink.Differs = record { stands = refl }
  mark-sent Sink.Unsaved = record { stands = refl }
  mark-sent Sink.Lost = record { stands = refl }

pub ruleset sending = (sent_print, sent-kept, sent_match, sent-shut)

pub ruleset shortening = (short-kept, short_match, short-shut)

module _ (expected : List ℕ) where
  -- ---- a comparison

  pub matched-next : (at : ℕ) (text : List ℕ) {found : Bool} → found ≡ begins text (drop at expected) → found ≡ true →
      Sink.Match (at + length text) ≡ matched expected at text
  matched-next at text e h = ap (λ (b : Bool). matched_by b (at + length text)) (sym h ∙ e)

  pub matched-not : (at : ℕ) (text : List ℕ) {found : Bool} → found ≡ begins text (drop at expected) → found ≡ false →
      Sink.Differs ≡ matched expected at text
  matched-not at text e h = ap (λ (b : Bool). matched_by b (at + length text)) (sym h ∙ e)

  pub finish-matched : (at : ℕ) {to : Sink} {same : Bool} {r : Finish} → to ≡ Sink.Match at → same ≡ eqb at (length expected) → r ≡ compared_by same →
      r ≡ finish_of expected to
  finish-matched at e h k = k ∙ ap compared_by h ∙ ap (finish_of expected) (sym e)

  -- ---- where nothing is sent, the sink stays as it is

  stands-none : (to : Sink) → StandsAs expected to [] to
  unfolding begins
  stands-none Sink.Print = tt
  stands-none (Sink.Match at) = ap Sink.Match (omega arith)
  stands-none Sink.Differs = refl
  stands-none Sink.Unsaved = refl
  stands-none Sink.Lost = refl

  pub sent-none : (to : Sink) → SentAs expected to [] to
  sent-none to = record { stands = stands-none to }

  -- ---- one text, and then another

  module _ (xs ys : List ℕ) where
    print_then : (s r : Sink) → Takes s → StandsAs expected s ys r → Takes r
    print_then Sink.Print r h k = k
    print_then (Sink.Match at) r h k = absurd h
    print_then Sink.Differs r h k = absurd h
    print_then Sink.Unsaved r h k = subst Takes (sym k) tt
    print_then Sink.Lost r h k = subst Takes (sym k) tt

    matched_then : (at : ℕ) (b : Bool) (s r : Sink) → begins xs (drop at expected) ≡ b → s ≡ matched_by b (at + length xs) →
        StandsAs expected s ys r → r ≡ matched expected at (xs ++ ys)
    matched_then at true s r e q k =
        let k' : r ≡ matched expected (at + length xs) ys = subst (λ (x : Sink). StandsAs expected x ys r) q k in
        k'
        ∙ rw (begins-append xs ys (drop at expected), e, drop-drop (length xs) at expected, length-append xs ys, add_assoc at (length xs) (length ys))
    matched_then at false s r e q k =
        let k' : r ≡ Sink.Differs = subst (λ (x : Sink). StandsAs expected x ys r) q k in
        k' ∙ rw (begins-append xs ys (drop at expected), e)

    stands_then : (to s r : Sink) → StandsAs expected to xs s → StandsAs expected s ys r → StandsAs expected to (xs ++ ys) r
    stands_then Sink.Print s r h k = print_then s r h k
    stands_then (Sink.Match at) s r h k = matched_then at (begins xs (drop at expected)) s r refl h k
    stands_then Sink.Differs s r h k = subst (λ (x : Sink). StandsAs expected x ys r) h k
    stands_then Sink.Unsaved s r h k = subst (λ (x : Sink). StandsAs expected x ys r) h k
    stands_then Sink.Lost s r h k = subst (λ (x : Sink). StandsAs expected x ys r) h k

    pub sent_then : (to s r : Sink) → SentAs expected to xs s → SentAs expected s ys r → SentAs expected to (xs ++ ys) r
    sent_then to s r h k = record { stands = stands_then to s r h.stands k.stands }

  -- ---- a text behind its mark

  pub sent-behind : {to s r : Sink} (place : Place) (bytes : List ℕ) → s ≡ mark_by expected place to → SentAs expected s bytes r →
      SentAs expected to (mark_of place ∷ bytes) r
  sent-behind {to} {s} {r} place bytes e k =
      sent_then (mark_of place ∷ []) bytes to s r (subst (SentAs expected to (mark_of place ∷ [])) (sym e) (mark-sent expected place to)) k

  module _ (to : Sink) where
    pub saved-none : (bytes : List ℕ) → length bytes ≡ 0 → SentAs expected to (saved_part bytes) to
    saved-none [] e = sent-none to
    saved-none (x ∷ xs) e = absurd (let z : suc (length xs) ≡ 0 = e in omega arith)

    pub shown_none : (bytes : List ℕ) → length bytes ≡ 0 → SentAs expected to (shown_part bytes) to
    shown_none [] e = sent-none to
    shown_none (x ∷ xs) e = absurd (let z : suc (length xs) ≡ 0 = e in omega arith)

    pub saved-some : (bytes : List ℕ) {s r : Sink} → (length bytes ≡ 0 → ⊥) → SentAs expected to (save_mark ∷ bytes) s → SentAs expected s settled r →
        SentAs expected to (saved_part bytes) r
    saved-some [] n h k = absurd (n refl)
    saved-some (x ∷ xs) {s} {r} n h k = sent_then (save_mark ∷ x ∷ xs) settled to s r h k

    pub shown_some : (bytes : List ℕ) {r : Sink} → (length bytes ≡ 0 → ⊥) → SentAs expected to (show_mark ∷ bytes) r → SentAs expected to (shown_part bytes) r
    shown_some [] n h = absurd (n refl)
    shown_some (x ∷ xs) n h = h

  -- ---- a cut

  module _ (at n : ℕ) {left : ℕ} (e : left ≡ length (drop at expected)) where
    pub passed_on : n ≤ left → Sink.Match (at + n) ≡ passed expected at n
    passed_on h = ap (λ (b : Bool). matched_by b (at + n)) (sym (le-leb n (length (drop at expected)) (subst (λ (m : ℕ). n ≤ m) e h)))

    pub passed-not : left < n → Sink.Differs ≡ passed expected at n
    passed-not h = ap (λ (b : Bool). matched_by b (at + n)) (sym (lt-leb n (length (drop at expected)) (subst (λ (m : ℕ). m < n) e h)))

  -- what a cut passes over is held against itself: a comparison stands as if those bytes had been sent, and then the wait for the disk
  short_sends : (at n : ℕ) (r : Sink) → n ≤ length (drop at expected) → ShortAs expected (Sink.Match at) n r →
      SentAs expected (Sink.Match at) (take n (drop at expected)) r
  short_sends at n r h k =
      record {
        stands =
            k.stands
            ∙ rw (le-leb n (length (drop at expected)) h, begins-take n (drop at expected), length-take-le n (drop at expected) h);
      }

  pub cut_sends : (at n : ℕ) (r : Sink) → n ≤ length (drop at expected) → CutAs expected (Sink.Match at) n r →
      SentAs expected (Sink.Match at) (take n (drop at expected) ++ settled) r
  cut_sends at n r h k = sent_then (take n (drop at expected)) settled (Sink.Match at) k.short r (short_sends at n k.short h k.cuts) k.waits

  -- ---- the end

  module _ (text : List ℕ) where
    -- first bytes that are as many as the others are all of them
    whole : begins text expected ≡ true → length text ≡ length expected → text ≡ expected
    whole e l =
        let d : drop (length text) expected ≡ [] = ap (λ (n : ℕ). drop n expected) l ∙ drop-length expected in
        sym (append-nil text) ∙ ap (λ (x : List ℕ). text ++ x) (sym d) ∙ begins_is text expected e

    tells_by : (b : Bool) → eqb (length text) (length expected) ≡ b → begins text expected ≡ true → Tells text expected (compared_by b)
    tells_by true e h = whole h (eqb-true (length text) (length expected) e)
    tells_by false e h = λ s. eqb-false (length text) (length expected) e (ap length s)

    matches_by : (b : Bool) → begins text expected ≡ b → Tells text expected (finish_of expected (matched_by b (0 + length text)))
    matches_by true e = rw (zero-add (length text)) (tells_by (eqb (length text) (length expected)) refl e)
    matches_by false e = λ s. false≢true (sym e ∙ ap (λ (x : List ℕ). begins x expected) s ∙ begins_self expected)

    -- A COMPARISON TELLS "SAME" JUST WHERE WHAT WAS SENT IS WHAT WAS EXPECTED
    pub finish-tells : (r : Finish) → Finished expected (Sink.Match 0) text r → Tells text expected r
    finish-tells r f =
        subst (Tells text expected) (sym (f.finish ∙ ap (finish_of expected) f.sent.stands)) (matches_by (begins text expected) refl)

    takes_printed : (s : Sink) → Takes s → PrintedAs (finish_of expected s)
    takes_printed Sink.Print h = tt
    takes_printed (Sink.Match at) h = absurd h
    takes_printed Sink.Differs h = absurd h
    takes_printed Sink.Unsaved h = tt
    takes_printed Sink.Lost h = tt

    pub finish-printed : (r : Finish) → Finished expected Sink.Print text r → PrintedAs r
    finish-printed r f = subst PrintedAs (sym f.finish) (takes_printed f.sink f.sent.stands)
