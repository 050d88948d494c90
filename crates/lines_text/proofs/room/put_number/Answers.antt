-- At each turn, putting the numeral of what is left into the room as it stands gives what putting the whole numeral gives.
use native.Mathlib.Omega.{arith}
use mathlib.Core.Path.{◌∙◌, sym}
use lib.ListN.{length-set}
use Rattle.lines_text_law.proofs.Digits.{length-first, length_last}
use Rattle.lines_text_law.proofs.Fills.{digit_turn, digit-end}
use Rattle.lines_text.proofs.room.put_number.Goals as goal

pub overflow_sub-p : goal.overflow_sub-p
overflow_sub-p c =
    let l = c.loop-w in
    omega (arith, length_last l.w (omega arith) (omega arith))

pub bounds-room-p : goal.bounds-room-p
bounds-room-p c =
    let l = c.loop-w in
    omega (arith, length_last l.w (omega arith) (omega arith))

pub loop-w-preserved : goal.loop-w-preserved
loop-w-preserved c =
    let a = c.args in
    let l = c.loop-w in
    let n = length_last l.w (omega arith) (omega arith) in (
      omega arith,
      omega arith,
      simp length-set (omega arith),
      simp length-set l.invariant.3,
      l.invariant.4 ∙ digit_turn l.room a.at l.w l.p (omega arith) (omega arith) (omega arith) (omega arith),
    )

pub bounds-room-at : goal.bounds-room-at
bounds-room-at c =
    let l = c.loop-w in
    omega (arith, length-first l.w (omega arith))

pub returns : goal.returns
returns c =
    let a = c.args in
    let l = c.loop-w in
    let n = length-first l.w (omega arith) in
    record {
      next = omega arith;
      laid = sym (l.invariant.4 ∙ digit-end l.room a.at l.w (omega arith) (omega arith));
    }
