-- Reads are made one after the other, and each leads the run on.
use Prim.Native.Nat.{ℕ, ◌+◌, ◌≤◌, ◌<◌}
use native.Mathlib.Omega.{arith}
use mathlib.Core.Path.{◌≡◌, refl, sym, ap, ◌∙◌, subst}
use mathlib.Core.Bool.{Bool, true, false, not, true≢false, false≢true}
use mathlib.Core.List.{List, [], ◌++◌, append-nil}
use borrow.Author.Tests.{not-true, not-false}
use lib.ListN.{length, take, drop, length-append}
use lib.Seq.{length-take-le, take_at}
use Rattle.terms.specs.Sizes.{line_room}
use Rattle.feed_law.specs.declared.Run.{Run}
use Rattle.feed_law.specs.declared.Stage.{Stage}
use Rattle.feed_law.specs.Turns.{Says}
use Rattle.resume_law.specs.Pieces.{too_many}
use Rattle.stream_law.specs.declared.Source.{Source}
use Rattle.stream_law.specs.declared.Sink.{Sink}
use Rattle.stream_law.specs.declared.Buffered.{Buffered}
use Rattle.stream_law.specs.declared.Reading.{Reading}
use Rattle.stream_law.specs.Sources.{Leads}
use Rattle.stream_law.specs.Sinks.{is_open}
use Rattle.stream_law.specs.Streams.{holding, Goes, is_on, reading_after, held_as, held_on, TakesIn, FrontKept, StopsAs, Hears, HearsOn}
use Rattle.stream_law.specs.Streams.StopsAs.{goes_on, over}
use Rattle.stream_law.proofs.Sources.{leads-none, leads_then}
use Rattle.stream_law.proofs.Goes.{goes_none, goes_then, goes_read}

-- at the end of the input, and after a read that failed, nothing more is read
pub off_done : Reading.Done ≡ Reading.On → ⊥
off_done e = let z : ◌≡◌ {A = ℕ} 0 1 = cc in omega arith

pub off-failed : Reading.Failed ≡ Reading.On → ⊥
off-failed e = let z : ◌≡◌ {A = ℕ} 0 1 = cc in omega arith

pub not_done_failed : Reading.Done ≡ Reading.Failed → ⊥
not_done_failed e = let z : ◌≡◌ {A = ℕ} 0 1 = cc in omega arith

-- a run that holds nothing at the buffer's front
hears-first : {says : Says ℕ} {buf expected given buys sells buf' buys' sells' : List ℕ} {least : ℕ} {run : Run} {to : Sink} {reading : Reading} {h r : Buffered} {from from' : Source} →
    h ≡ held_as run 0 to reading → HearsOn says expected given least h from buf buys sells buf' buys' sells' r from' →
    Hears says expected given least (holding run buys sells []) from to buf' buys' sells' r from'
hears-first {says} {buf} {expected} {given} {buys} {sells} {buf'} {buys'} {sells'} {least} {run} {to} {reading} {h} {r} {from} {from'} e k =
    subst (λ (x : Buffered). Hears says expected given least (held_on buf buys sells x) from x.to buf' buys' sells' r from') e k.hears

on_is : (reading : Reading) → is_on reading ≡ true → reading ≡ Reading.On
on_is Reading.On e = refl
on_is Reading.Done e = absurd (false≢true e)
on_is Reading.Failed e = absurd (false≢true e)

-- ---- reads, one after the other, while more is to be read: each gave a byte at least, so no fewer bytes came than there were turns

pub record Listens (says : Says ℕ) (expected given : List ℕ) (turns : ℕ) (h₀ : Buffered) (from₀ : Source) (buf₀ buys₀ sells₀ buf buys sells : List ℕ) (h : Buffered)
    (from : Source) : Type 0 where
  pub on : h.reading ≡ Reading.On
  pub heard : HearsOn says expected given 0 h₀ from₀ buf₀ buys₀ sells₀ buf buys sells h from
  pub count : turns ≤ length heard.hears.got

-- before the first read nothing is kept
pub listens_start : (says : Says ℕ) (expected given buf buys sells : List ℕ) (from : Source) {run : Run} {to : Sink} {h : Buffered} → h ≡ held_as run 0 to Reading.On →
    Listens says expected given 0 h from buf buys sells buf buys sells h from
listens_start says expected given buf buys sells from {h = h} e =
    let z = ap (λ (x : Buffered). x.have) e in
    let was : h.reading ≡ Reading.On = ap (λ (x : Buffered). x.reading) e in
    record {
      on = was;
      heard =
          record {
            hears =
                record {
                  room = record { within = omega arith; short = λ _. omega arith };
                  got = [];
                  goes = goes_none says expected _ h.to;
                  leads = leads-none given from;
                  stops = goes_on was;
                  some = λ _. omega arith;
                };
          };
      count = omega arith;
    }

module _ {says : Says ℕ} {expected given : List ℕ} {turns : ℕ} {h₀ : Buffered} {from₀ : Source} {buf₀ buys₀ sells₀ buf buys sells : List ℕ} {h : Buffered} {from : Source}
    (p : Listens says expected given turns h₀ from₀ buf₀ buys₀ sells₀ buf buys sells h from) where
  -- what is kept is short, so there is room behind it
  pub listens_room : line_room < length buf → h.have < length buf
  listens_room w = let l = p.heard.hears.room.short p.on in omega arith

  module _ {buf' buys' sells' : List ℕ} {r : Buffered} {from' : Source} (q : HearsOn says expected given 1 h from buf buys sells buf' buys' sells' r from') {reads : Bool}
      (e : reads ≡ is_on r.reading) where
    -- one read more
    abbrev heard_then : (least : ℕ) → (r.reading ≡ Reading.On → least ≤ length (p.heard.hears.got ++ q.hears.got)) →
        HearsOn says expected given least h₀ from₀ buf₀ buys₀ sells₀ buf' buys' sells' r from'
    heard_then least some =
        let a = p.heard.hears in
        let b = q.hears in
        record {
          hears =
              record {
                room = b.room;
                got = a.got ++ b.got;
                goes = goes_then a.goes b.goes;
                leads = leads_then a.leads b.leads;
                stops = b.stops;
                some = some;
              };
        }

    pub listens_then : not reads ≡ false → Listens says expected given (turns + 1) h₀ from₀ buf₀ buys₀ sells₀ buf' buys' sells' r from'
    listens_then n =
        let was : r.reading ≡ Reading.On = on_is r.reading (sym e ∙ not-false reads n) in
        let l = length-append p.heard.hears.got q.hears.got in
        let m = q.hears.some was in
        let k = p.count in
        let all : turns + 1 ≤ length (p.heard.hears.got ++ q.hears.got) = omega arith in
        record { on = was; heard = heard_then 0 (λ _. omega arith); count = all }

    -- the last read: it does not matter how many bytes came
    pub listens_off : {least : ℕ} {run : Run} {to : Sink} {reading : Reading} → h₀ ≡ held_as run 0 to reading → not reads ≡ true →
        Hears says expected given least (holding run buys₀ sells₀ []) from₀ to buf' buys' sells' r from'
    listens_off {least} f n = hears-first f (heard_then least (λ g. absurd (true≢false (sym (ap is_on g) ∙ sym e ∙ not-true reads n))))

  -- the turns are over
  pub listens_all : {run : Run} {to : Sink} {reading : Reading} → h₀ ≡ held_as run 0 to reading → too_many ≤ turns →
      Hears says expected given too_many (holding run buys₀ sells₀ []) from₀ to buf buys sells h from
  listens_all e n =
      hears-first e
      (let a = p.heard.hears in
      record {
        hears = record { room = a.room; got = a.got; goes = a.goes; leads = a.leads; stops = a.stops; some = λ on. let l = p.count in omega arith };
      })

-- what is kept stays the same, whatever comes to stand behind it
pub front_kept : (buf behind : List ℕ) (have : ℕ) → have ≤ length buf → take have (take have buf ++ behind) ≡ take have buf
front_kept buf behind have h = take_at (take have buf) behind have (length-take-le have buf h)

module _ {says : Says ℕ} {expected given buys sells : List ℕ} {h : Buffered} {from from' : Source} {buf buf₁ : List ℕ} (kept : FrontKept h.have buf buf₁) where
  -- nothing came: the source is at its end, or the read failed
  pub hears-none : {reading : Reading} {r : Buffered} → (reading ≡ Reading.On → ⊥) → h.have < length buf → Leads given from [] from' →
      StopsAs given from' (held_as h.run h.have h.to reading) → r ≡ held_as h.run h.have h.to reading →
      HearsOn says expected given 1 h from buf buys sells buf₁ buys sells r from'
  hears-none {reading} {r} off fits leads stops e =
      subst (λ (x : Buffered). HearsOn says expected given 1 h from buf buys sells buf₁ buys sells x from') (sym e)
      (record {
        hears =
            record {
              room = record { within = omega (arith, kept.same); short = λ on. absurd (off on) };
              got = [];
              goes =
                  subst (λ (x : List ℕ). Goes says expected (held_on buf buys sells h) h.to [] (holding h.run buys sells x) h.to) (sym kept.front)
                  (goes_none says expected (held_on buf buys sells h) h.to);
              leads = leads;
              stops = stops;
              some = λ on. absurd (off on);
            };
      })

  -- n bytes came, and were taken in
  pub hears-some : (n : ℕ) {buf' buys' sells' : List ℕ} {r : Buffered} → 0 < n → n ≤ length (drop h.have buf₁) → Leads given from (take n (drop h.have buf₁)) from' →
      TakesIn says expected h.run buf₁ (h.have + n) buys sells h.to buf' buys' sells' r →
      HearsOn says expected given 1 h from buf buys sells buf' buys' sells' r from'
  hears-some n {r = r} some there leads k =
      let came : List ℕ = take n (drop h.have buf₁) in
      let l = length-take-le n (drop h.have buf₁) there in
      record {
        hears =
            record {
              room = k.room;
              got = came ++ [];
              goes = goes_then (goes_read says expected h.to h.run buys sells buf buf₁ h.have n kept.front) k.goes;
              leads = leads_then leads (leads-none given from');
              stops = stops-after (reading_after r.run.stage r.to) refl k.reading;
              some = λ on. let m = ap length (append-nil came) in omega arith;
            };
      }
    where
      stops-after : (x : Reading) → reading_after r.run.stage r.to ≡ x → r.reading ≡ reading_after r.run.stage r.to → StopsAs given from' r
      stops-after Reading.On e f = goes_on (f ∙ e)
      stops-after Reading.Done e f = over (f ∙ e) e
      stops-after Reading.Failed e f = absurd (after-not r.run.stage (is_open r.to) refl e)
        where
          after-not : (stage : Stage) (b : Bool) → is_open r.to ≡ b → reading_after stage r.to ≡ Reading.Failed → ⊥
          after-not Stage.Awaiting true o e = off-failed (sym (rw o at e))
          after-not Stage.Awaiting false o e = not_done_failed (rw o at e)
          after-not Stage.Trading true o e = off-failed (sym (rw o at e))
          after-not Stage.Trading false o e = not_done_failed (rw o at e)
          after-not Stage.Over b o e = not_done_failed e
