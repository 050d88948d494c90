-- What is left of the lines, from where the replay stands, makes up the whole: that is what the loop keeps.
use borrow.Author.Rules.{rules}
use native.Mathlib.Omega.{arith}
use Rattle.resume_law.proofs.Replays.{long_kept, replaying_start, replaying_stops, replaying_on, replaying_end, used-fits, used-some}
use Rattle.resume_lines.proofs.until_halted.Goals as goal

ruleset answers = (rules, long_kept, replaying_start, replaying_stops, replaying_on, replaying_end, used-fits)

pub loop-at-smaller : goal.loop-at-smaller
loop-at-smaller c =
    let some = used-some _ _ _ _ _ _ _ c.loop-at.invariant.0 (omega arith) _ _ _ c.line_at-t.ensures _ c.in-Ok.is in
    omega arith

pub returns-in-Err : goal.returns-in-Err
returns-in-Err c = search answers

pub loop-at-preserved : goal.loop-at-preserved
loop-at-preserved c = (search answers, search answers, search answers, search answers, search answers)

pub returns : goal.returns
returns c = search answers
