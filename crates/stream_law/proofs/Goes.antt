-- How a run goes from one standing to the next: by a read, and by a step that hands lines on.
use Prim.Native.Nat.{ℕ, ◌+◌, ◌-◌, ◌≤◌}
use native.Mathlib.Omega.{arith}
use native.Mathlib.Nat.{le_of_eq}
use mathlib.Core.Path.{◌≡◌, refl, sym, ap, ◌∙◌}
use mathlib.Core.Bool.{Bool, true, false, ◌&&◌}
use mathlib.Core.List.{List, [], ◌++◌, append_assoc}
use lib.ListN.{length, take, drop, length-replicate}
use lib.Seq.{take-add, take-append_seam}
use borrow.Author.Tests.{le-leb}
use Rattle.tables.specs.Lengths.{table_length, room_length}
use Rattle.terms.proofs.Logic.{make}
use Rattle.soundness_law.specs.Sound.{day_in}
use Rattle.engine_law.specs.Calls.{roomy, LongTables, LongEnough}
use Rattle.feed_law.specs.declared.Run.{Run}
use Rattle.feed_law.specs.declared.Stage.{Stage}
use Rattle.feed_law.specs.declared.Stop.{Stop}
use Rattle.feed_law.specs.Texts.{text_most}
use Rattle.feed_law.specs.Worlds.{Lent, days, calls}
use Rattle.feed_law.specs.Turns.{stop_at, Says, printing, said_from}
use Rattle.feed_law.specs.Feeds.{Prints}
use Rattle.promises.specs.Printed.{Holding, to_say}
use Rattle.promises.proofs.Printing.{Long, same-said}
use Rattle.stream_law.specs.declared.Sink.{Sink}
use Rattle.stream_law.specs.declared.Handed.{Handed}
use Rattle.stream_law.specs.declared.Mode.{Mode}
use Rattle.stream_law.specs.Streams.{logging, says_of, out_room, zeros, holding, Goes, HandsOn}
use Rattle.stream_law.proofs.Beginnings.{rest_is}
use Rattle.stream_law.proofs.Sends.{sent-none, sent_then}

-- ---- nothing, and one after the other

pub goes_none : (says : Says ℕ) (expected : List ℕ) (a : Holding) (to : Sink) → Goes says expected a to [] a to
goes_none says expected a to = record { text = []; said = λ more. refl; sent = sent-none expected to }

pub goes_then : {says : Says ℕ} {expected got got' : List ℕ} {a b c : Holding} {to s r : Sink} → Goes says expected a to got b s →
    Goes says expected b s got' c r → Goes says expected a to (got ++ got') c r
goes_then {says} {expected} {got} {got'} {a} {b} {c} {to} {s} {r} g h =
    record {
      text = g.text ++ h.text;
      said =
          λ more.
          ap (to_say says a) (append_assoc got got' more)
          ∙ g.said (got' ++ more)
          ∙ ap (λ (x : List ℕ). g.text ++ x) (h.said more)
          ∙ sym (append_assoc g.text h.text (to_say says c more));
      sent = sent_then expected g.text h.text to s r g.sent h.sent;
    }

-- a read puts n bytes behind those that were kept
pub goes_read : (says : Says ℕ) (expected : List ℕ) (to : Sink) (run : Run) (buys sells buf buf' : List ℕ) (have n : ℕ) → take have buf' ≡ take have buf →
    Goes says expected (holding run buys sells (take have buf)) to (take n (drop have buf')) (holding run buys sells (take (have + n) buf')) to
goes_read says expected to run buys sells buf buf' have n e =
    let got : List ℕ = take n (drop have buf') in
    let k : take (have + n) buf' ≡ take have buf ++ got = take-add have n buf' ∙ ap (λ (x : List ℕ). x ++ got) e in
    record {
      text = [];
      said =
          λ more.
          ap (said_from days says run.stage (day_in run.session buys sells))
          (sym (append_assoc (take have buf) got more) ∙ ap (λ (x : List ℕ). x ++ more) (sym k));
      sent = sent-none expected to;
    }

-- ---- what was printed, and the rooms

-- the text that was printed stands at the start of the output room
pub room-text : {out text out' : List ℕ} {n : ℕ} → Prints out text n out' → take n out' ≡ text
room-text {out} {text} {out'} {n} p = (λ i. take (p.count i) (p.laid i)) ∙ take-append_seam text (drop (length text) out)

-- rooms of zeros are long enough
zeros-length : (n : ℕ) → length (zeros n) ≡ n
zeros-length n = length-replicate {A = ℕ} n 0

pub rooms_long : (buys sells : List ℕ) → LongTables buys sells → LongEnough buys sells (zeros room_length)
rooms_long buys sells t = record { buys_long = t.buys_long; sells_long = t.sells_long; room_long = le_of_eq (sym (zeros-length room_length)) }

pub out_wide : text_most ≤ length (zeros out_room)
out_wide = rw (zeros-length out_room) (omega arith)

pub line_wide : text_most ≤ length (zeros text_most)
line_wide = le_of_eq (sym (zeros-length text_most))

pub roomy-long : {buys sells room : List ℕ} → LongEnough buys sells room → roomy buys sells room ≡ true
unfolding roomy
roomy-long {buys} {sells} {room} t =
    make (make (le-leb table_length (length buys) t.buys_long) (le-leb table_length (length sells) t.sells_long))
    (le-leb room_length (length room) t.room_long)

-- ---- a step on the bytes from a place on, which code lends as a slice

pub hands_from : {says : Says ℕ} {run : Run} {buys sells : List ℕ} (bytes : List ℕ) (at : ℕ) {expected : List ℕ} {to : Sink} {buys' sells' : List ℕ} {r : Handed} →
    HandsOn says expected (holding run buys sells (take (length bytes - at) (drop at bytes))) to buys' sells' r →
    HandsOn says expected (holding run buys sells (drop at bytes)) to buys' sells' r
hands_from bytes at k = rw (rest_is bytes at) at k

-- a step of a program that only prints, and of one that keeps its day
module _ {mode : Mode} {expected : List ℕ} {a : Holding} {to : Sink} {buys' sells' : List ℕ} {r : Handed} where
  pub hands_bare : mode ≡ Mode.Bare → HandsOn printing expected a to buys' sells' r → HandsOn (says_of mode) expected a to buys' sells' r
  hands_bare e k = rw e k

  pub hands_keeping : {file : _} → mode ≡ Mode.Keeping file → HandsOn logging expected a to buys' sells' r → HandsOn (says_of mode) expected a to buys' sells' r
  hands_keeping e k = rw e k

-- what is said of lent numbers is said of the day that they hold
pub by_days : (says : Says ℕ) (run : Run) (buys sells bytes : List ℕ) (stage : Stage) (l : Lent) (rest more : List ℕ) → Long l → run.stage ≡ stage →
    run.session ≡ l.session → buys ≡ l.buys → sells ≡ l.sells → bytes ≡ rest →
    said_from calls says stage l (rest ++ more) ≡ to_say says (holding run buys sells bytes) more
by_days says run buys sells bytes stage l rest more long a s b c e =
    same-said says (length (rest ++ more)) stage l (rest ++ more) long
    ∙ (λ i. said_from days says (sym a i) (day_in (sym s i) (sym b i) (sym c i)) (sym e i ++ more))

pub and_false : (a b : Bool) → b ≡ false → (a && b) ≡ false
and_false true b e = e
and_false false b e = refl

-- a run that is not over waits
pub waits-at : (s : Stage) → (s ≡ Stage.Over → ⊥) → stop_at s ≡ Stop.Waits
waits-at Stage.Awaiting n = refl
waits-at Stage.Trading n = refl
waits-at Stage.Over n = absurd (n refl)
