-- Each number begins where the last one ended, so the place never leaves the text.
use Rattle.std.proofs.Common.{◌≤◌, length}
use Rattle.cases.proofs.nine.nine.Given as goal

abbrev pub invariant-loop-k : goal.invariant-loop-k
invariant-loop-k l = (l.from ≤ l.at) × (l.at ≤ length l.text) × (l.k ≤ 9)
