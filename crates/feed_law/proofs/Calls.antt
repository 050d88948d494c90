-- What the calls answer and leave is what the definitions say, given the case in which code finds itself.
use Prim.Native.Nat.{ℕ, ◌-◌, ◌≤◌}
use native.Mathlib.Omega.{arith}
use mathlib.Core.Path.{◌≡◌, refl, sym, ap, ◌∙◌, subst}
use mathlib.Core.Bool.{Bool, true, false, not}
use mathlib.Core.List.{List, []}
use lib.ListN.{length}
use Rattle.std.specs.Prelude.{Ok, Err}
use Rattle.terms.specs.declared.Refusal.TheVariants.{SmallRoom}
use Rattle.terms.specs.Refusals.{Verdict}
use Rattle.terms.proofs.Cascade.{stops_here, goes_on, none_applies}
use Rattle.engine_law.specs.Calls.{roomy}
use Rattle.feed_law.specs.declared.Run.{Run}
use Rattle.feed_law.specs.declared.Stop.{Stop}
use Rattle.feed_law.specs.declared.Taken.{Taken}
use Rattle.feed_law.specs.Worlds.{Lent, lent_of, calls}
use Rattle.feed_law.specs.Turns.{Fed, end_behind}
use Rattle.feed_law.specs.Feeds.{TakenAs, TakenBy, taken_to, feed_verdict, lines_of, fed_by, fed_of, ended_of, EndsBehind}
use Rattle.feed_law.proofs.Prints.{prints_within}
use Rattle.feed_law.proofs.Going.{taken_as}
use Rattle.feed_law.proofs.Starts.{taken-there, end-used}

module _ (run : Run) (buys sells room bytes out : List ℕ) where
  -- no more bytes are taken than are there
  lines-there : (v : Verdict) → (fed_by v run buys sells room bytes out).used ≤ length bytes
  lines-there (Ok _) = taken-there calls (length out) run.stage (lent_of run.session buys sells room) bytes
  lines-there (Err n) = omega arith

  judged : (v : Verdict) → feed_verdict buys sells room ≡ v → fed_of run buys sells room bytes out ≡ fed_by v run buys sells room bytes out
  unfolding fed_of
  judged v e = ap (λ (x : Verdict). fed_by x run buys sells room bytes out) e

  taken-lines : {buys' sells' room' out' : List ℕ} {r : Taken} → TakenAs (fed_of run buys sells room bytes out) out buys' sells' room' out' r →
      length out' ≡ length out → TakenBy fed_of run buys sells room bytes out buys' sells' room' out' r
  unfolding fed_of
  taken-lines k kept =
      record { taken = k; used_there = rw k.used (lines-there (feed_verdict buys sells room)); wrote_there = prints_within k.printed kept }

module _ {run : Run} {buys sells room bytes out : List ℕ} {r : Taken} {found : Bool} (f : found ≡ roomy buys sells room) where
  -- a table or the report room is too short: nothing is taken
  pub took_none : not found ≡ true → r ≡ taken_to run 0 0 (Stop.Refused SmallRoom) → TakenBy fed_of run buys sells room bytes out buys sells room out r
  unfolding feed_verdict
  took_none n e =
      let v : feed_verdict buys sells room ≡ Err SmallRoom = sym (stops_here SmallRoom found (roomy buys sells room) [] f n) in
      taken-lines run buys sells room bytes out
      (taken_as (judged run buys sells room bytes out (Err SmallRoom) v) e refl refl refl (record { count = refl; laid = refl }) refl) refl

  -- they are long enough: the lines are taken
  pub took_lines : {buys' sells' room' out' : List ℕ} → not found ≡ false → TakenAs (lines_of run buys sells room bytes out) out buys' sells' room' out' r → length out' ≡ length out →
      TakenBy fed_of run buys sells room bytes out buys' sells' room' out' r
  unfolding feed_verdict
  took_lines {buys'} {sells'} {room'} {out'} n k kept =
      let v : feed_verdict buys sells room ≡ Ok tt = sym (goes_on (Ok tt) SmallRoom found (roomy buys sells room) [] f n none_applies) in
      taken-lines run buys sells room bytes out
      (subst (λ (x : Fed Lent). TakenAs x out buys' sells' room' out' r) (sym (judged run buys sells room bytes out (Ok tt) v)) k) kept

-- and then the end of the input is told
pub took_end : {run : Run} {buys sells room bytes out buys' sells' room' out₁ out' : List ℕ} {t r : Taken} →
    TakenBy fed_of run buys sells room bytes out buys' sells' room' out₁ t → length out₁ ≡ length out → EndsBehind t (length bytes) out₁ out' r →
    length out' ≡ length out₁ → TakenBy ended_of run buys sells room bytes out buys' sells' room' out' r
unfolding ended_of end_behind fed_of
took_end {run} {buys} {sells} {room} {bytes} {out} {buys'} {sells'} {room'} {out₁} {out'} {t} {r} k kept ends same =
    let f : Fed Lent = fed_by (feed_verdict buys sells room) run buys sells room bytes out in
    let e : TakenAs (end_behind calls (length out) (length bytes) f) out buys' sells' room' out' r = ends.ends f out buys' sells' room' k.taken kept in
    let u = end-used calls f.stop (length out - length f.text) (length bytes - f.used) f in
    record {
      taken = e;
      used_there = rw (e.used, u) (lines-there run buys sells room bytes out (feed_verdict buys sells room));
      wrote_there = prints_within e.printed (same ∙ kept);
    }
