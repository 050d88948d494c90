-- The form and the numbers are those of the definition.
use native.Mathlib.Omega.{arith}
use Rattle.lines_text_law.specs.Forms.{holes, longest}
use Rattle.lines_writing_law.proofs.ByKind.{by_bad}
use Rattle.lines_writing_reports.proofs.write_bad.Goals as goal

pub write-requires : goal.write-requires
unfolding holes longest
write-requires c = record { enough = omega arith; short = omega arith }

pub returns : goal.returns
returns c = search by_bad
