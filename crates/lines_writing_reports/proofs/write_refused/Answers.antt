-- The form and the numbers are those of the definition.
use native.Mathlib.Omega.{arith}
use Rattle.lines_text_law.specs.Forms.{holes, longest}
use Rattle.lines_writing_law.proofs.ByKind.{by_refused}
use Rattle.lines_writing_reports.proofs.write_refused.Goals as goal

pub say-requires : goal.say-requires
unfolding holes longest
say-requires c = record { enough = omega arith; short = omega arith }

pub returns : goal.returns
returns c = search by_refused
