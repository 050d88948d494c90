-- Bytes are handed on write by write: one write, by the state of the sink, and the loop of many.
use Prim.Native.Nat.{ℕ, ◌+◌, ◌-◌, ◌^◌, ◌≤◌, ◌<◌}
use native.Mathlib.Omega.{arith}
use mathlib.Core.Path.{◌≡◌, refl, sym, ap, ◌∙◌, subst}
use mathlib.Core.Bool.{Bool, true, false, not, cond, true≢false}
use mathlib.Core.List.{List}
use lib.ListN.{length, take, drop, take-append-drop, length-drop}
use lib.Seq.{take_all, take-add}
use lib.Dec.{eqb}
use borrow.Author.Tests.{eqb-false, not-true, not-false}
use mir.Syntax.{w64}
use mir.Val.{Fits}
use Rattle.stream_law.specs.declared.Sink.{Sink}
use Rattle.stream_law.specs.declared.Place.{Place}
use Rattle.stream_law.specs.declared.Wrote.{Wrote}
use Rattle.stream_law.specs.Sinks.{matched, Takes, SentAs, is_open, failed_at, held_by, took_by, WroteAs}
use Rattle.stream_law.proofs.Beginnings.{rest_is, part-within}
use Rattle.stream_law.proofs.Sends.{sent_print, sent_match, sent-shut, sent-none, sent_then}

-- ---- one write

failed_takes : (place : Place) → Takes (failed_at place)
failed_takes (Place.File fd) = tt
failed_takes Place.Output = tt

failed-shut : (place : Place) → is_open (failed_at place) ≡ false
failed-shut (Place.File fd) = refl
failed-shut Place.Output = refl

module _ (expected bytes : List ℕ) (to : Sink) where
  shut-wrote : (s : Sink) → SentAs expected to (take 0 bytes) s → is_open s ≡ false → WroteAs expected to bytes (held_by s 0)
  shut-wrote s h e = record { within = omega arith; sent = h; some = λ o. absurd (true≢false (sym o ∙ e)) }

  took_wrote : (place : Place) (n : ℕ) (b : Bool) → eqb n 0 ≡ b → to ≡ Sink.Print → n ≤ length bytes →
      WroteAs expected to bytes (cond b (held_by (failed_at place) 0) (held_by Sink.Print n))
  took_wrote place n true e t h = shut-wrote (failed_at place) (sent_print expected (take 0 bytes) to (failed_at place) t (failed_takes place)) (failed-shut place)
  took_wrote place n false e t h =
      record { within = h; sent = sent_print expected (take n bytes) to Sink.Print t tt; some = λ _ _. let k = eqb-false n 0 e in omega arith }

  module _ (r : Wrote) where
    pub wrote_took : {n : ℕ} (place : Place) → to ≡ Sink.Print → n ≤ length bytes → r ≡ took_by place n → WroteAs expected to bytes r
    wrote_took {n} place t h e = subst (WroteAs expected to bytes) (sym e) (took_wrote place n (eqb n 0) refl t h)

    pub wrote-held : {at : ℕ} → to ≡ Sink.Match at → r ≡ held_by (matched expected at bytes) (length bytes) → WroteAs expected to bytes r
    wrote-held {at} t e =
        let all : bytes ≡ take (length bytes) bytes = sym (take_all (length bytes) bytes (omega arith)) in
        subst (WroteAs expected to bytes) (sym e)
        (record {
          within = omega arith;
          sent =
              subst (λ (x : List ℕ). SentAs expected to x (matched expected at bytes)) all
              (sent_match expected bytes to (matched expected at bytes) t refl);
          some = λ _ h. h;
        })

    pub wrote_none : {s : Sink} → to ≡ s → is_open s ≡ false → r ≡ held_by s 0 → WroteAs expected to bytes r
    wrote_none {s} t h e = subst (WroteAs expected to bytes) (sym e) (shut-wrote s (sent-shut expected (take 0 bytes) to s t h) h)

pub ruleset wrote = (wrote_took, wrote-held, wrote_none)

-- ---- the loop: the first `at` bytes were handed on

pub record Writing (expected : List ℕ) (to : Sink) (bytes : List ℕ) (sink : Sink) (at : ℕ) : Type 0 where
  pub within : at ≤ length bytes
  pub sent : SentAs expected to (take at bytes) sink

pub writing_start : (expected bytes : List ℕ) (to : Sink) → Writing expected to bytes to 0
writing_start expected bytes to = record { within = omega arith; sent = sent-none expected to }

module _ {expected bytes : List ℕ} {to sink : Sink} {at : ℕ} (g : Writing expected to bytes sink at) where
  pub writing_ends : length bytes ≤ at → SentAs expected to bytes sink
  writing_ends h = subst (λ (x : List ℕ). SentAs expected to x sink) (take_all at bytes h) g.sent

  -- what a sink that is shut was handed may as well be all
  writing_shut : is_open sink ≡ false → SentAs expected to bytes sink
  writing_shut e =
      subst (λ (x : List ℕ). SentAs expected to x sink) (take-append-drop at bytes)
      (sent_then expected (take at bytes) (drop at bytes) to sink sink g.sent (sent-shut expected (drop at bytes) sink sink refl e))

module _ {expected bytes : List ℕ} {to sink : Sink} {at : ℕ} {w : Wrote} (g : Writing expected to bytes sink at)
    (k : WroteAs expected sink (take (length bytes - at) (drop at bytes)) w) where
  there : at + w.taken ≤ length bytes
  there = part-within bytes at w.taken g.within k.within

  pub writing_on : Writing expected to bytes w.to (at + w.taken)
  writing_on =
      let k' : SentAs expected sink (take w.taken (drop at bytes)) w.to =
      subst (λ (x : List ℕ). SentAs expected sink (take w.taken x) w.to) (rest_is bytes at) k.sent in
      record {
        within = there;
        sent =
            subst (λ (x : List ℕ). SentAs expected to x w.to) (sym (take-add at w.taken bytes))
            (sent_then expected (take at bytes) (take w.taken (drop at bytes)) to sink w.to g.sent k');
      }

  pub writing_stops : {wide : Bool} → wide ≡ is_open w.to → not wide ≡ true → SentAs expected to bytes w.to
  writing_stops {wide} e h = writing_shut writing_on (sym e ∙ not-true wide h)

  pub writing_fits : length bytes < 2 ^ 64 → Fits w64 (at + w.taken)
  writing_fits h = record { fits = let t = there in omega arith }

  pub writing_less : {wide : Bool} → wide ≡ is_open w.to → not wide ≡ false → at < length bytes → length bytes - (at + w.taken) < length bytes - at
  writing_less {wide} e h l =
      let some : 0 < length (take (length bytes - at) (drop at bytes)) = more in
      let n = k.some (sym e ∙ not-false wide h) some in
      let t = there in
      omega arith
    where
      more : 0 < length (take (length bytes - at) (drop at bytes))
      more = let d = ap length (rest_is bytes at) ∙ length-drop at bytes in omega arith
