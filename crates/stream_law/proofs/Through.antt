-- A whole run sends all that the program prints, from its start to the end of its input.
use Prim.Native.Nat.{ℕ, zero, suc, ◌<◌}
use native.Mathlib.Omega.{arith}
use mathlib.Core.Path.{◌≡◌, refl, sym, ap, ◌∙◌, subst}
use mathlib.Core.Bool.{Bool, true, false, not, cond, true≢false}
use mathlib.Core.List.{List, [], ◌++◌}
use lib.ListN.{length, take, length-append}
use borrow.Author.Tests.{not-true, not-false}
use Rattle.tables.specs.Tables.{decode}
use Rattle.state_law.specs.Opening.{fixed_session}
use Rattle.state_law.specs.Day.{Day}
use Rattle.feed_law.specs.declared.Run.{Run}
use Rattle.feed_law.specs.declared.Stage.{Stage}
use Rattle.feed_law.specs.Worlds.{days}
use Rattle.feed_law.specs.Turns.{Says, printing, said_in, said_from, printed}
use Rattle.feed_law.specs.Feeds.{fresh_run}
use Rattle.resume_law.specs.Pieces.{too_many}
use Rattle.promises.specs.Printed.{Holding, day_on, to_say, to_print}
use Rattle.stream_law.specs.declared.Source.{Source}
use Rattle.stream_law.specs.declared.Sink.{Sink}
use Rattle.stream_law.specs.declared.Finish.{Finish}
use Rattle.stream_law.specs.declared.Buffered.{Buffered}
use Rattle.stream_law.specs.declared.Reading.{Reading}
use Rattle.stream_law.specs.declared.Mode.{Mode}
use Rattle.stream_law.specs.Sources.{Gives}
use Rattle.stream_law.specs.Sinks.{SentAs, is_open, finish_of}
use Rattle.stream_law.specs.Streams.{says_of, holding, reading_after, held_on, StopsAs, Hears, EndsAs, is_done, EndedAs, Finished, ThroughAs, FreshThrough, Tells, Compares, PrintedAs}
use Rattle.stream_law.specs.Streams.StopsAs.{goes_on, ended, over, failed}
use Rattle.stream_law.specs.Streams.EndedAs.{broken, sent}
use Rattle.stream_law.specs.Streams.ThroughAs.{unread, too_long, all_read, stopped}
use Rattle.stream_law.proofs.Sources.{leads-end, Given, gives-some}
use Rattle.stream_law.proofs.Sends.{sent_then, finish-tells, finish-printed}
use Rattle.stream_law.proofs.Hearing.{off_done}

-- ---- a run that is over, or whose sink is shut, says nothing more

said-over : (mode : Mode) (n : ℕ) (d : Day) (bytes : List ℕ) → said_in days (says_of mode) n Stage.Over d bytes ≡ []
unfolding said_in
said-over Mode.Bare zero d bytes = refl
said-over Mode.Bare (suc n) d bytes = refl
said-over (Mode.Keeping file) zero d bytes = refl
said-over (Mode.Keeping file) (suc n) d bytes = refl

-- to a sink that is shut any text may be sent
pub shut-sent : (expected text more : List ℕ) (to last : Sink) → is_open to ≡ false → SentAs expected to text last → SentAs expected to more last
shut-sent expected text more Sink.Print last e k = absurd (true≢false e)
shut-sent expected text more (Sink.Match at) last e k = absurd (true≢false e)
shut-sent expected text more Sink.Differs last e k = record { stands = k.stands }
shut-sent expected text more Sink.Unsaved last e k = record { stands = k.stands }
shut-sent expected text more Sink.Lost last e k = record { stands = k.stands }

open_reads : (b : Bool) → cond b Reading.On Reading.Done ≡ Reading.Done → b ≡ false
open_reads true e = absurd (off_done (sym e))
open_reads false e = refl

-- what follows is not said, so the end was sent for it too
over-sent : (mode : Mode) (expected : List ℕ) (b : Holding) (to last : Sink) (stage : Stage) → b.run.stage ≡ stage → reading_after stage to ≡ Reading.Done →
    SentAs expected to (to_say (says_of mode) b []) last → (rest : List ℕ) → SentAs expected to (to_say (says_of mode) b rest) last
over-sent mode expected b to last Stage.Awaiting s e k rest = shut-sent expected (to_say (says_of mode) b []) (to_say (says_of mode) b rest) to last (open_reads (is_open to) e) k
over-sent mode expected b to last Stage.Trading s e k rest = shut-sent expected (to_say (says_of mode) b []) (to_say (says_of mode) b rest) to last (open_reads (is_open to) e) k
over-sent mode expected b to last Stage.Over s e k rest =
    subst (λ (x : List ℕ). SentAs expected to x last) (none [] ∙ sym (none rest)) k
  where
    none : (more : List ℕ) → to_say (says_of mode) b more ≡ []
    none more =
        ap (λ (x : Stage). said_from days (says_of mode) x (day_on b) (b.kept ++ more)) s ∙ said-over mode (length (b.kept ++ more)) (day_on b) (b.kept ++ more)

-- ---- the end of a run

module _ {says : Says ℕ} {expected : List ℕ} {h : Buffered} {r : Finish} {done : Bool} (told : done ≡ is_done h.reading) where
  pub ended-unread : {b : Holding} → not done ≡ true → r ≡ Finish.Unread → EndedAs says expected b h r
  ended-unread n e = broken (sym told ∙ not-true done n) e

  pub ended-sent : (buf : List ℕ) {buys sells : List ℕ} {last : Sink} → not done ≡ false → EndsAs says expected (holding h.run buys sells (take h.have buf)) h.to last → r ≡ finish_of expected last →
      EndedAs says expected (held_on buf buys sells h) h r
  ended-sent buf {last = last} n e q = sent last (sym told ∙ not-false done n) e.sent q

-- ---- a whole run

module _ (mode : Mode) {expected given : List ℕ} {a : Holding} {from from' : Source} {to : Sink} {buf' buys' sells' : List ℕ} {h : Buffered}
    (k : Hears (says_of mode) expected given too_many a from to buf' buys' sells' h from') where
  abbrev b : Holding
  b = held_on buf' buys' sells' h

  -- all that could be read was read, and then the end was told; of what follows nothing is said
  module _ {r : Finish} (last : Sink) (q : r ≡ finish_of expected last) where
    finished : (rest : List ℕ) → SentAs expected h.to (to_say (says_of mode) b rest) last → Finished expected to (to_say (says_of mode) a (k.got ++ rest)) r
    finished rest s =
        record {
          sink = last;
          sent =
              subst (λ (x : List ℕ). SentAs expected to x last) (sym (k.goes.said rest))
              (sent_then expected k.goes.text (to_say (says_of mode) b rest) to h.to last k.goes.sent s);
          finish = q;
        }

    whole : SentAs expected h.to (to_say (says_of mode) b []) last → is_done h.reading ≡ true → StopsAs given from' h →
        ThroughAs (says_of mode) expected (Gives given from) a to r
    whole s d (goes_on f) = absurd (true≢false (sym d ∙ ap is_done f))
    whole s d (ended f g) = all_read (k.got ++ []) (k.leads.behind [] true g) (finished [] s)
    whole s d (over f g) =
        let more : Given given from' = gives-some given from' in
        stopped (k.got ++ more.bytes) more.whole (k.leads.behind more.bytes more.whole more.gives)
        (record { got = k.got; rest = more.bytes; all = refl; b = b; to' = h.to; goes = k.goes; over = g })
        (finished more.bytes (over-sent mode expected b h.to last h.run.stage refl g s more.bytes))
    whole s d (failed f g) = absurd (true≢false (sym d ∙ ap is_done f))

  -- a read failed, or there were more bytes than turns
  not-all : {r : Finish} → r ≡ Finish.Unread → is_done h.reading ≡ false → StopsAs given from' h → ThroughAs (says_of mode) expected (Gives given from) a to r
  not-all e d (goes_on f) =
      let more : Given given from' = gives-some given from' in
      let l = length-append k.got more.bytes in
      let m = k.some f in
      too_long (k.got ++ more.bytes) more.whole (k.leads.behind more.bytes more.whole more.gives) (omega arith) e
  not-all e d (ended f g) = absurd (true≢false (sym (ap is_done f) ∙ d))
  not-all e d (over f g) = absurd (true≢false (sym (ap is_done f) ∙ d))
  not-all e d (failed f g) = unread k.got b h.to (leads-end false k.leads g) k.goes e

  pub run_through : {r : Finish} → EndedAs (says_of mode) expected (held_on buf' buys' sells' h) h r → ThroughAs (says_of mode) expected (Gives given from) a to r
  run_through (broken d e) = not-all e d k.stops
  run_through (sent last d s q) = whole last q s d k.stops

-- ---- what the answers of `compare` and `print` say

-- before the first line, whatever the tables hold, all is still to be printed
from_start : (buys sells input : List ℕ) → to_print (holding fresh_run buys sells []) input ≡ printed input
unfolding printed fixed_session decode
from_start buys sells input = refl

-- a run from the start that `feed::start` answers
pub fresh_through : {expected buys sells : List ℕ} {gives : List ℕ → Bool → Type 0} {run : Run} {to : Sink} {r : Finish} → run ≡ fresh_run →
    ThroughAs printing expected gives (holding run buys sells []) to r → FreshThrough expected gives to r
fresh_through {expected} {buys} {sells} {gives} {run} {to} {r} e k =
    record { buys = buys; sells = sells; run = subst (λ (x : Run). ThroughAs printing expected gives (holding x buys sells []) to r) e k }

-- of a text that is lent all is read
pub through_text : {says : Says ℕ} {expected given : List ℕ} {a : Holding} {to : Sink} {r : Finish} → length given < too_many →
    ThroughAs says expected (Gives given (Source.Text 0)) a to r → Finished expected to (to_say says a given) r
through_text {says} {expected} {given} {a} {to} {r} short = go
  where
    all : (input : List ℕ) → input ≡ given → Finished expected to (to_say says a input) r → Finished expected to (to_say says a given) r
    all input e k = subst (λ (x : List ℕ). Finished expected to (to_say says a x) r) e k

    go : ThroughAs says expected (Gives given (Source.Text 0)) a to r → Finished expected to (to_say says a given) r
    go (unread input b to g k e) = absurd g
    go (too_long input true g l e) = absurd (let z = ap length g in omega arith)
    go (too_long input false g l e) = absurd g
    go (all_read input g k) = all input g k
    go (stopped input true g o k) = all input g k
    go (stopped input false g o k) = absurd g

pub through_compares : {given expected : List ℕ} {r : Finish} → FreshThrough expected (Gives given (Source.Text 0)) (Sink.Match 0) r → Compares given expected r
through_compares {given} {expected} {r} f =
    record {
      tells =
          λ short.
          subst (λ (x : List ℕ). Tells x expected r) (from_start f.buys f.sells given) (finish-tells expected _ r (through_text short f.run));
    }

pub through_prints : {expected : List ℕ} {gives : List ℕ → Bool → Type 0} {r : Finish} → FreshThrough expected gives Sink.Print r → PrintedAs r
through_prints {expected} {gives} {r} f = go f.run
  where
    go : ThroughAs printing expected gives (holding fresh_run f.buys f.sells []) Sink.Print r → PrintedAs r
    go (unread input b to g k e) = subst PrintedAs (sym e) tt
    go (too_long input whole g l e) = subst PrintedAs (sym e) tt
    go (all_read input g k) = finish-printed expected _ r k
    go (stopped input whole g o k) = finish-printed expected _ r k
