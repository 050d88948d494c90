-- All whole lines of some bytes are handed over, one step after the other; and then those of a buffer.
use Prim.Native.Nat.{ℕ, ◌+◌, ◌-◌, ◌^◌, ◌≤◌, ◌<◌}
use native.Mathlib.Omega.{arith}
use mathlib.Core.Path.{◌≡◌, refl, sym, ap, ◌∙◌, subst}
use mathlib.Core.Bool.{Bool, true, false, not, cond}
use mathlib.Core.List.{List, []}
use lib.ListN.{length, take, drop, length-drop, drop_of_length-le}
use lib.Seq.{drop-drop, length-take-le}
use borrow.Author.Tests.{not-true, not-false}
use mir.Syntax.{w64}
use mir.Val.{Fits}
use Rattle.feed_law.specs.declared.Run.{Run}
use Rattle.feed_law.specs.declared.Stage.{Stage}
use Rattle.feed_law.specs.Turns.{Says, said_in}
use Rattle.stream_law.specs.declared.Sink.{Sink}
use Rattle.stream_law.specs.declared.Handed.{Handed}
use Rattle.stream_law.specs.declared.Reading.{Reading}
use Rattle.stream_law.specs.Sinks.{is_open}
use Rattle.stream_law.specs.Streams.{holding, Goes, NoLine, handed_to, HandsOn, OverAs, reading_after, ToFront, TakesIn}
use Rattle.stream_law.proofs.Goes.{goes_none, goes_then}

-- ---- the loop: the first `at` bytes were taken, and the run went on from its start to where it stands now

pub record Handing (says : Says ℕ) (expected : List ℕ) (run : Run) (buys₀ sells₀ bytes : List ℕ) (to : Sink) (now : Run) (buys sells : List ℕ) (at : ℕ) (sink : Sink) : Type 0 where
  pub within : at ≤ length bytes
  pub goes : Goes says expected (holding run buys₀ sells₀ bytes) to [] (holding now buys sells (drop at bytes)) sink

pub handing-start : (says : Says ℕ) (expected bytes : List ℕ) (run : Run) (buys sells : List ℕ) (to : Sink) →
    Handing says expected run buys sells bytes to run buys sells 0 to
handing-start says expected bytes run buys sells to = record { within = omega arith; goes = goes_none says expected _ to }

-- where no bytes are left, there is no line
none_left : (says : Says ℕ) (run : Run) (buys sells bytes : List ℕ) (at : ℕ) → length bytes ≤ at → NoLine says (holding run buys sells (drop at bytes))
unfolding said_in
none_left says run buys sells bytes at h =
    let e = drop_of_length-le bytes h in
    subst (λ (x : List ℕ). NoLine says (holding run buys sells x)) (sym e) (record { end = refl; short = λ _. omega arith })

module _ {says : Says ℕ} {expected : List ℕ} {run : Run} {buys₀ sells₀ bytes : List ℕ} {to : Sink} {now : Run} {buys sells : List ℕ} {at : ℕ} {sink : Sink}
    (g : Handing says expected run buys₀ sells₀ bytes to now buys sells at sink) where
  pub over_as : {r : Handed} → r ≡ handed_to now at sink → (is_open sink ≡ true → NoLine says (holding now buys sells (drop at bytes))) →
      OverAs says expected (holding run buys₀ sells₀ bytes) to buys sells r
  over_as e k = subst (OverAs says expected (holding run buys₀ sells₀ bytes) to buys sells) (sym e) (record { within = g.within; goes = g.goes; lines = k })

  pub handing-end : {r : Handed} → length bytes ≤ at → r ≡ handed_to now at sink → OverAs says expected (holding run buys₀ sells₀ bytes) to buys sells r
  handing-end h e = over_as e (λ _. none_left says now buys sells bytes at h)

  -- a step
  module _ {buys' sells' : List ℕ} {h : Handed} (k : HandsOn says expected (holding now buys sells (drop at bytes)) sink buys' sells' h) where
    further : drop h.used (drop at bytes) ≡ drop (at + h.used) bytes
    further = drop-drop h.used at bytes

    there : at + h.used ≤ length bytes
    there = let l = length-drop at bytes in let w = g.within in let v = k.within in omega arith

    pub handing-fits : length bytes < 2 ^ 64 → Fits w64 (at + h.used)
    handing-fits w = record { fits = let t = there in omega arith }

    pub handing-on : Handing says expected run buys₀ sells₀ bytes to h.run buys' sells' (at + h.used) h.to
    handing-on =
        record {
          within = there;
          goes =
              goes_then g.goes
              (subst (λ (x : List ℕ). Goes says expected (holding now buys sells (drop at bytes)) sink [] (holding h.run buys' sells' x) h.to) further k.goes);
        }

    -- each further step has fewer bytes
    pub handing_less : not h.more ≡ false → length bytes - (at + h.used) < length bytes - at
    handing_less m =
        let u = k.some (not-false h.more m) in
        let w = there in
        omega arith

    -- no whole line is left, or the sink is shut
    stops-there : not h.more ≡ true → is_open h.to ≡ true → NoLine says (holding h.run buys' sells' (drop (at + h.used) bytes))
    stops-there m o = subst (λ (x : List ℕ). NoLine says (holding h.run buys' sells' x)) further (k.none o (not-true h.more m))

-- the loop returns where no further step is to be made
pub handing-stops : {says : Says ℕ} {expected : List ℕ} {run : Run} {buys₀ sells₀ bytes : List ℕ} {to : Sink} {now : Run} {buys sells : List ℕ} {at : ℕ} {sink : Sink} {buys' sells' : List ℕ} {h r : Handed} →
    Handing says expected run buys₀ sells₀ bytes to now buys sells at sink → HandsOn says expected (holding now buys sells (drop at bytes)) sink buys' sells' h →
    r ≡ handed_to h.run (at + h.used) h.to → not h.more ≡ true → OverAs says expected (holding run buys₀ sells₀ bytes) to buys' sells' r
handing-stops g k e m = over_as (handing-on g k) e (stops-there g k m)

-- ---- a buffer: its bytes up to an end are handed over, and the rest is moved to its front

-- where more is to be read, the run is not over and the sink is open
open_if : (b : Bool) → cond b Reading.On Reading.Done ≡ Reading.On → b ≡ true
open_if true e = refl
open_if false e = absurd (let z : ◌≡◌ {A = ℕ} 0 1 = cc in omega arith)

on_if : (stage : Stage) (to : Sink) → reading_after stage to ≡ Reading.On → (is_open to ≡ true) × (stage ≡ Stage.Over → ⊥)
on_if Stage.Awaiting to e = (open_if (is_open to) e, λ p. let z : ◌≡◌ {A = ℕ} 0 1 = cc in omega arith)
on_if Stage.Trading to e = (open_if (is_open to) e, λ p. let z : ◌≡◌ {A = ℕ} 0 1 = cc in omega arith)
on_if Stage.Over to e = absurd (let z : ◌≡◌ {A = ℕ} 0 1 = cc in omega arith)

pub takes_in : {says : Says ℕ} {expected buf : List ℕ} {end : ℕ} {to : Sink} {run : Run} {buys sells buf' buys' sells' : List ℕ} {h : Handed} {reading : Reading} →
    end ≤ length buf → length buf' ≡ length buf → OverAs says expected (holding run buys sells (take end buf)) to buys' sells' h →
    ToFront buf h.used end buf' → reading ≡ reading_after h.run.stage h.to →
    TakesIn says expected run buf end buys sells to buf' buys' sells' (record { run = h.run; have = end - h.used; to = h.to; reading = reading })
takes_in {says} {expected} {buf} {end} {to} {run} {buys} {sells} {buf'} {buys'} {sells'} {h} {reading} there same k moved e =
    record {
      room =
          record {
            within = omega arith;
            short =
                λ on.
                let o = on_if h.run.stage h.to (sym e ∙ on) in
                let l = (k.lines o.0).short o.1 in
                let m = length-drop h.used (take end buf) ∙ ap (λ (n : ℕ). n - h.used) (length-take-le end buf there) in
                omega arith;
          };
      goes =
          subst (λ (x : List ℕ). Goes says expected (holding run buys sells (take end buf)) to [] (holding h.run buys' sells' x) h.to)
          (sym moved.front) k.goes;
      reading = e;
    }
