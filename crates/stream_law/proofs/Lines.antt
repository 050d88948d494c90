-- A line that is saved before its text is shown is a step of a program that keeps its day.
use Prim.Native.Nat.{ℕ, ◌≤◌, ◌<◌}
use native.Mathlib.Omega.{arith}
use mathlib.Core.Path.{◌≡◌, refl, sym, ap, ◌∙◌, subst}
use mathlib.Core.Bool.{Bool, true, false, not, true≢false}
use mathlib.Core.List.{List, [], ◌++◌, append-nil}
use lib.ListN.{length, take, drop}
use lib.Dec.{eqb}
use borrow.Author.Tests.{eqb-true, eqb-false, not-true}
use Rattle.terms.specs.Sizes.{line_room}
use Rattle.terms.proofs.Logic.{split}
use Rattle.feed_law.specs.declared.Run.{Run}
use Rattle.feed_law.specs.declared.Stage.{Stage}
use Rattle.feed_law.specs.declared.Turned.{Turned}
use Rattle.feed_law.specs.Texts.{text_most, most_at}
use Rattle.feed_law.specs.Worlds.{Lent, lent_of, calls}
use Rattle.feed_law.specs.Turns.{Turn, turn_of, said_from}
use Rattle.feed_law.specs.Feeds.{TurnedAs}
use Rattle.feed_law.proofs.First.{turn_waits}
use Rattle.feed_law.proofs.Says.{Quiet, said-last, said-line}
use Rattle.promises.specs.Printed.{Holding, to_say}
use Rattle.promises.proofs.Printing.{turn_same, same-said}
use Rattle.stream_law.specs.declared.Sink.{Sink}
use Rattle.stream_law.specs.Sinks.{SentAs, is_open}
use Rattle.stream_law.specs.Streams.{logging, TurnLong, holding, Goes, NoLine, still_going, HandsOn}
use Rattle.stream_law.proofs.Goes.{room-text, roomy-long, by_days, and_false, waits-at}

-- whatever stands next, the room holds what it can print
pub most_any : (stage : Stage) (n : ℕ) → text_most ≤ n → most_at stage ≤ n
most_any Stage.Awaiting n h = omega arith
most_any Stage.Trading n h = h
most_any Stage.Over n h = omega arith

pub logging-quiet : Quiet logging
logging-quiet = record { line = refl; end = λ n. refl }

module _ {run : Run} {buys sells room bytes out : List ℕ} {expected : List ℕ} {to r : Sink} {buys' sells' room' out' : List ℕ} {t : Turned} {more : Bool}
    (b : TurnLong run buys sells room bytes out buys' sells' room' out' t)
    (h : SentAs expected to (logging.line (take t.saves bytes) (take t.wrote out')) r) (m : more ≡ still_going t.used r) where
  abbrev held : Lent
  held = lent_of run.session buys sells room

  abbrev u : Turn Lent
  u = turn_of calls run.stage held bytes

  k : TurnedAs u out buys' sells' room' out' t
  k = b.taken.turned

  abbrev left : Holding
  left = holding t.run buys' sells' (drop t.used bytes)

  still : (more : List ℕ) → said_from calls logging u.stage u.world (drop u.used bytes ++ more) ≡ to_say logging left more
  still more =
      by_days logging t.run buys' sells' (drop t.used bytes) u.stage u.world (drop u.used bytes) more
      (turn_same run.stage held (roomy-long b.long) bytes).long k.stage (ap (λ (l : Lent). l.session) k.world)
      (ap (λ (l : Lent). l.buys) k.world) (ap (λ (l : Lent). l.sells) k.world) (ap (λ (n : ℕ). drop n bytes) k.used)

  saved_is : take t.saves bytes ≡ take u.saves bytes
  saved_is = ap (λ (n : ℕ). take n bytes) k.saves

  line-goes : Goes logging expected (holding run buys sells bytes) to [] left r
  line-goes =
      record {
        text = logging.line (take u.saves bytes) u.text;
        said =
            λ more.
            sym (same-said logging (length (bytes ++ more)) run.stage held (bytes ++ more) (roomy-long b.long))
            ∙ said-line calls logging logging-quiet run.stage held bytes more
            ∙ ap (λ (x : List ℕ). logging.line (take u.saves bytes) u.text ++ x) (still more);
        sent = subst (λ (x : List ℕ). SentAs expected to x r) (λ i. logging.line (saved_is i) (room-text k.printed i)) h;
      }

  -- where the line was not whole, none is left
  unused : is_open r ≡ true → more ≡ false → u.used ≡ 0
  unused o e = go (eqb t.used 0) refl
    where
      go : (z : Bool) → eqb t.used 0 ≡ z → u.used ≡ 0
      go true z = sym k.used ∙ eqb-true t.used 0 z
      go false z = absurd (true≢false (sym (m ∙ rw (z, o)) ∙ e))

  line-none : is_open r ≡ true → more ≡ false → NoLine logging left
  line-none o e =
      let z = unused o e in
      let d : drop u.used bytes ≡ bytes = ap (λ (n : ℕ). drop n bytes) z in
      let d' : bytes ≡ drop t.used bytes = sym d ∙ ap (λ (n : ℕ). drop n bytes) (sym k.used) in
      record {
        end =
            sym (still [])
            ∙ ap (said_from calls logging u.stage u.world) (append-nil (drop u.used bytes) ∙ d)
            ∙ said-last calls logging logging-quiet run.stage held bytes z
            ∙ (λ i. logging.end (sym k.stage i) (length (d' i)));
        short = λ n. subst (λ (x : List ℕ). length x ≤ line_room) d' (turn_waits calls run.stage held bytes z (waits-at u.stage (λ e. n (k.stage ∙ e)))).1;
      }

  line-some : more ≡ true → 0 < t.used
  line-some e =
      let w : eqb t.used 0 ≡ false = not-true (eqb t.used 0) (split (not (eqb t.used 0)) (is_open r) (sym m ∙ e)).0 in
      let n = eqb-false t.used 0 w in
      omega arith

  -- after a failure no further line is taken
  line-shut : is_open r ≡ false → more ≡ false
  line-shut e = m ∙ and_false (not (eqb t.used 0)) (is_open r) e

  pub keeps : HandsOn logging expected (holding run buys sells bytes) to buys' sells' (record { run = t.run; used = t.used; to = r; more = more })
  keeps = record { within = b.taken.used_there; goes = line-goes; some = line-some; shut = line-shut; none = line-none }
