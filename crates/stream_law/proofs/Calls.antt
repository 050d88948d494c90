-- A call of feed, whose output is sent on, is a step of a program that only prints.
use Prim.Native.Nat.{ℕ, ◌≤◌, ◌<◌}
use mathlib.Core.Path.{◌≡◌, refl, sym, ap, ◌∙◌, subst}
use mathlib.Core.Bool.{Bool, true, false, true≢false, false≢true}
use mathlib.Core.List.{List, [], ◌++◌, append-nil}
use lib.ListN.{length, take, drop, length-drop}
use Rattle.terms.specs.Sizes.{line_room}
use Rattle.terms.specs.Refusals.{first_failed}
use Rattle.terms.proofs.Logic.{split}
use Rattle.engine_law.specs.Calls.{LongEnough}
use Rattle.feed_law.specs.declared.Run.{Run}
use Rattle.feed_law.specs.declared.Stop.{Stop}
use Rattle.feed_law.specs.declared.Taken.{Taken}
use Rattle.feed_law.specs.Texts.{text_most, end_text}
use Rattle.feed_law.specs.Worlds.{Lent, lent_of, calls}
use Rattle.feed_law.specs.Turns.{Fed, fed_in, printing, printed_from}
use Rattle.feed_law.specs.Feeds.{TakenAs, TakenBy, feed_verdict, fed_of}
use Rattle.feed_law.proofs.Progress.{progress}
use Rattle.feed_law.proofs.Pieces.{pieces, lines_rest, stands-there}
use Rattle.feed_law.proofs.Starts.{starts_short}
use Rattle.promises.specs.Printed.{Holding, to_print}
use Rattle.promises.proofs.Printing.{same-said, fed_long}
use Rattle.stream_law.specs.declared.Sink.{Sink}
use Rattle.stream_law.specs.Sinks.{SentAs, is_open}
use Rattle.stream_law.specs.Streams.{is_full, more_after, holding, Goes, NoLine, HandsOn}
use Rattle.stream_law.proofs.Goes.{room-text, roomy-long, by_days, and_false, waits-at}

-- ---- why a feed stopped

full_if : (s : Stop) → is_full s ≡ true → s ≡ Stop.Full
full_if Stop.Waits e = absurd (false≢true e)
full_if Stop.Full e = refl
full_if Stop.Over e = absurd (false≢true e)
full_if (Stop.Refused r) e = absurd (false≢true e)

more_if : (s : Stop) (to : Sink) → s ≡ Stop.Full → is_open to ≡ true → more_after s to ≡ true
more_if s to e o = rw (e, o)

-- ---- A CALL OF FEED, whose output is sent on

module _ {run : Run} {buys sells room bytes out : List ℕ} (long : LongEnough buys sells room) (wide : text_most ≤ length out) {expected : List ℕ} {to s : Sink}
    {buys' sells' room' out' : List ℕ} {t : Taken} {more : Bool} (b : TakenBy fed_of run buys sells room bytes out buys' sells' room' out' t)
    (h : SentAs expected to (take t.wrote out') s) (m : more ≡ more_after t.stop s) where
  abbrev lent : Lent
  lent = lent_of run.session buys sells room

  abbrev f : Fed Lent
  f = fed_in calls (length bytes) (length out) run.stage lent bytes

  fed_is : fed_of run buys sells room bytes out ≡ f
  unfolding fed_of feed_verdict first_failed
  fed_is = rw (roomy-long long)

  k : TakenAs f out buys' sells' room' out' t
  k = subst (λ (x : Fed Lent). TakenAs x out buys' sells' room' out' t) fed_is b.taken

  abbrev after : Holding
  after = holding t.run buys' sells' (drop t.used bytes)

  -- what is said after it
  still : (more : List ℕ) → printed_from calls f.stage f.world (drop f.used bytes ++ more) ≡ to_print after more
  still more =
      by_days printing t.run buys' sells' (drop t.used bytes) f.stage f.world (drop f.used bytes) more
      (fed_long (length out) run.stage lent bytes (roomy-long long)) k.stage (ap (λ (l : Lent). l.session) k.world)
      (ap (λ (l : Lent). l.buys) k.world) (ap (λ (l : Lent). l.sells) k.world) (ap (λ (n : ℕ). drop n bytes) k.used)

  call-goes : Goes printing expected (holding run buys sells bytes) to [] after s
  call-goes =
      record {
        text = f.text;
        said =
            λ more.
            sym (same-said printing (length (bytes ++ more)) run.stage lent (bytes ++ more) (roomy-long long))
            ∙ pieces calls (length out) run.stage lent bytes more
            ∙ ap (λ (x : List ℕ). f.text ++ x) (still more);
        sent = subst (λ (x : List ℕ). SentAs expected to x s) (room-text k.printed) h;
      }

  stop_is : more ≡ more_after f.stop s
  stop_is = m ∙ ap (λ (x : Stop). more_after x s) k.stop

  -- where the output room was not full, no whole line is left
  call_none : is_open s ≡ true → more ≡ false → NoLine printing after
  call_none o e =
      let unfull : f.stop ≡ Stop.Full → ⊥ = λ p. true≢false (sym (more_if f.stop s p o) ∙ sym stop_is ∙ e) in
      let d : drop f.used bytes ≡ drop t.used bytes = ap (λ (n : ℕ). drop n bytes) (sym k.used) in
      record {
        end =
            sym (still [])
            ∙ ap (printed_from calls f.stage f.world) (append-nil (drop f.used bytes))
            ∙ lines_rest calls (length out) run.stage lent bytes unfull
            ∙ rw (← length-drop f.used bytes) (λ i. end_text (sym k.stage i) (length (d i)));
        short =
            λ n.
            let w = stands-there calls (length out) run.stage lent bytes unfull ∙ waits-at f.stage (λ e. n (k.stage ∙ e)) in
            subst (λ (x : List ℕ). length x ≤ line_room) d (starts_short calls (length out) run.stage lent bytes w);
      }

  -- where it was full, something was taken
  call-some : more ≡ true → 0 < t.used
  call-some e =
      let full = full_if f.stop (split (is_full f.stop) (is_open s) (sym stop_is ∙ e)).0 in
      rw k.used ((progress calls (length out) run.stage lent bytes wide).0 full)

  -- after a failure no further line is taken
  call-shut : is_open s ≡ false → more ≡ false
  call-shut e = m ∙ and_false (is_full t.stop) (is_open s) e

  pub hands : HandsOn printing expected (holding run buys sells bytes) to buys' sells' (record { run = t.run; used = t.used; to = s; more = more })
  hands = record { within = b.used_there; goes = call-goes; some = call-some; shut = call-shut; none = call_none }
