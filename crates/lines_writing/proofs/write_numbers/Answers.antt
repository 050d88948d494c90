-- The form and the numbers are those of the definition.
use native.Mathlib.Omega.{arith}
use Rattle.lines_text_law.specs.Forms.{holes, longest}
use Rattle.lines_reading_law.specs.Lines.{numbers_form}
use Rattle.lines_writing.proofs.write_numbers.Goals as goal

pub write-requires : goal.write-requires
unfolding holes longest
write-requires c = record { enough = omega arith; short = omega arith }

pub returns : goal.returns
unfolding numbers_form
returns c = c.write.ensures
