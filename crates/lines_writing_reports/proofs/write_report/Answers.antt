-- One arm for each kind of report, each with the definition's form and numbers.
use native.Mathlib.Omega.{arith}
use Rattle.lines_text_law.specs.Forms.{holes, longest}
use Rattle.lines_writing_law.proofs.ByKind.{by_said, by_ended}
use Rattle.lines_writing_reports.proofs.write_report.Goals as goal

pub say-requires : goal.say-requires
unfolding holes longest
say-requires c = record { enough = omega arith; short = omega arith }

pub say-requires-in-Trade : goal.say-requires-in-Trade
unfolding holes longest
say-requires-in-Trade c = record { enough = omega arith; short = omega arith }

pub say-requires-in-Convert : goal.say-requires-in-Convert
unfolding holes longest
say-requires-in-Convert c = record { enough = omega arith; short = omega arith }

pub say-requires-in-Cancel : goal.say-requires-in-Cancel
unfolding holes longest
say-requires-in-Cancel c = record { enough = omega arith; short = omega arith }

pub say-requires-in-Slab : goal.say-requires-in-Slab
unfolding holes longest
say-requires-in-Slab c = record { enough = omega arith; short = omega arith }

pub say-requires-in-Ref : goal.say-requires-in-Ref
unfolding holes longest
say-requires-in-Ref c = record { enough = omega arith; short = omega arith }

pub say-requires-in-Close : goal.say-requires-in-Close
unfolding holes longest
say-requires-in-Close c = record { enough = omega arith; short = omega arith }

pub returns-in-Accept : goal.returns-in-Accept
unfolding holes
returns-in-Accept c = search by_said

pub returns-in-Trade : goal.returns-in-Trade
unfolding holes
returns-in-Trade c = search by_said

pub returns-in-Convert : goal.returns-in-Convert
unfolding holes
returns-in-Convert c = search by_said

pub returns-in-Cancel : goal.returns-in-Cancel
returns-in-Cancel c = search by_ended

pub returns-in-Slab : goal.returns-in-Slab
unfolding holes
returns-in-Slab c = search by_said

pub returns-in-Ref : goal.returns-in-Ref
unfolding holes
returns-in-Ref c = search by_said

pub returns-in-Close : goal.returns-in-Close
unfolding holes
returns-in-Close c = search by_said
