-- At the end of the input all that is still to be printed is sent.
use Prim.Native.Nat.{ℕ, ◌-◌}
use mathlib.Core.Path.{◌≡◌, refl, sym, ap, ◌∙◌, subst}
use mathlib.Core.Bool.{Bool, true, false, true≢false}
use mathlib.Core.List.{List, []}
use lib.ListN.{length, take, drop}
use Rattle.feed_law.specs.Turns.{Says}
use Rattle.feed_law.specs.Texts.{end_text}
use Rattle.feed_law.specs.Feeds.{EndTold}
use Rattle.feed_law.specs.declared.Stage.{Stage}
use Rattle.promises.specs.Printed.{Holding, to_say}
use Rattle.stream_law.specs.declared.Sink.{Sink}
use Rattle.stream_law.specs.declared.Handed.{Handed}
use Rattle.stream_law.specs.Sinks.{StandsAs, SentAs, is_open, shown_part}
use Rattle.stream_law.specs.declared.Mode.{Mode}
use Rattle.stream_law.specs.Streams.{says_of, handed_on, OverAs, end_by, EndsAs}
use Rattle.stream_law.proofs.Beginnings.{rest_is}
use Rattle.stream_law.proofs.Sends.{sent_then}
use Rattle.stream_law.proofs.Goes.{room-text}

-- once the sink is shut, it does not matter what is sent to it
stands-shut : (expected text more : List ℕ) (to r : Sink) → is_open to ≡ false → StandsAs expected to text r → StandsAs expected to more r
stands-shut expected text more Sink.Print r e h = absurd (true≢false e)
stands-shut expected text more (Sink.Match at) r e h = absurd (true≢false e)
stands-shut expected text more Sink.Differs r e h = h
stands-shut expected text more Sink.Unsaved r e h = h
stands-shut expected text more Sink.Lost r e h = h

module _ {says : Says ℕ} {expected : List ℕ} {a : Holding} {to : Sink} {buys' sells' : List ℕ} {h : Handed} (k : OverAs says expected a to buys' sells' h) where
  abbrev b : Holding
  b = handed_on a buys' sells' h

  abbrev tail : List ℕ
  tail = says.end h.run.stage (length b.kept)

  sent-rest : (r : Sink) (wide : Bool) → is_open h.to ≡ wide → SentAs expected h.to tail r → SentAs expected h.to (to_say says b []) r
  sent-rest r true e s = subst (λ (x : List ℕ). SentAs expected h.to x r) (sym (k.lines e).end) s
  sent-rest r false e s = record { stands = stands-shut expected tail (to_say says b []) h.to r e s.stands }

  pub ends_as : {r : Sink} → SentAs expected h.to (says.end h.run.stage (length (take (length a.kept - h.used) (drop h.used a.kept)))) r →
      EndsAs says expected a to r
  ends_as {r} s =
      let s' : SentAs expected h.to tail r = rw (rest_is a.kept h.used) at s in
      record {
        sent =
            subst (λ (x : List ℕ). SentAs expected to x r) (sym (k.goes.said []))
            (sent_then expected k.goes.text (to_say says b []) to h.to r k.goes.sent (sent-rest r (is_open h.to) refl s'));
      }

-- what the end prints stands in the output room, and is sent from there
end_by_lem : (mode : Mode) (stage : Stage) (n : ℕ) → end_by mode (end_text stage n) ≡ (says_of mode).end stage n
end_by_lem Mode.Bare stage n = refl
end_by_lem (Mode.Keeping file) stage n = refl

module _ {expected : List ℕ} (text : List ℕ) {to r : Sink} {mode : Mode} where
  pub end_bare : mode ≡ Mode.Bare → SentAs expected to text r → SentAs expected to (end_by mode text) r
  end_bare e s = rw e s

  pub end_keeping : {file : _} → mode ≡ Mode.Keeping file → SentAs expected to (shown_part text) r → SentAs expected to (end_by mode text) r
  end_keeping e s = rw e s

pub ended-sent : {expected : List ℕ} (mode : Mode) {to r : Sink} {stage : Stage} {rest : ℕ} {out out' : List ℕ} {n : ℕ} → EndTold stage rest out n out' →
    SentAs expected to (end_by mode (take n out')) r → SentAs expected to ((says_of mode).end stage rest) r
ended-sent {expected} mode {to} {r} {stage} {rest} p s =
    subst (λ (x : List ℕ). SentAs expected to x r) (ap (end_by mode) (room-text p.printed) ∙ end_by_lem mode stage rest) s
