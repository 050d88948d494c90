-- One arm for each category, each with the definition's form and numbers.
use native.Mathlib.Omega.{arith}
use Rattle.lines_text_law.specs.Forms.{holes, longest}
use Rattle.lines_writing_law.proofs.ByKind.{by_category}
use Rattle.lines_writing.proofs.write_settings.Goals as goal

pub write_numbers-requires : goal.write_numbers-requires
unfolding holes longest
write_numbers-requires c = (omega arith, omega arith)

pub write_numbers-requires-in-Narrow : goal.write_numbers-requires-in-Narrow
unfolding holes longest
write_numbers-requires-in-Narrow c = (omega arith, omega arith)

pub write_numbers-requires-in-Sensitive : goal.write_numbers-requires-in-Sensitive
unfolding holes longest
write_numbers-requires-in-Sensitive c = (omega arith, omega arith)

pub write_numbers-requires-in-Energy : goal.write_numbers-requires-in-Energy
unfolding holes longest
write_numbers-requires-in-Energy c = (omega arith, omega arith)

pub write_numbers-requires-in-Metals : goal.write_numbers-requires-in-Metals
unfolding holes longest
write_numbers-requires-in-Metals c = (omega arith, omega arith)

pub write_numbers-requires-in-Precious : goal.write_numbers-requires-in-Precious
unfolding holes longest
write_numbers-requires-in-Precious c = (omega arith, omega arith)

pub write_numbers-requires-in-Gems : goal.write_numbers-requires-in-Gems
unfolding holes longest
write_numbers-requires-in-Gems c = (omega arith, omega arith)

pub write_numbers-requires-in-Other : goal.write_numbers-requires-in-Other
unfolding holes longest
write_numbers-requires-in-Other c = (omega arith, omega arith)

pub returns-in-Broad : goal.returns-in-Broad
returns-in-Broad c = search by_category

pub returns-in-Narrow : goal.returns-in-Narrow
returns-in-Narrow c = search by_category

pub returns-in-Sensitive : goal.returns-in-Sensitive
returns-in-Sensitive c = search by_category

pub returns-in-Energy : goal.returns-in-Energy
returns-in-Energy c = search by_category

pub returns-in-Metals : goal.returns-in-Metals
returns-in-Metals c = search by_category

pub returns-in-Precious : goal.returns-in-Precious
returns-in-Precious c = search by_category

pub returns-in-Gems : goal.returns-in-Gems
returns-in-Gems c = search by_category

pub returns-in-Other : goal.returns-in-Other
returns-in-Other c = search by_category
