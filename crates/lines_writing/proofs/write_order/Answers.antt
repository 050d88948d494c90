-- One arm for each kind and each life, each with the definition's form and numbers.
use native.Mathlib.Omega.{arith}
use Rattle.lines_text_law.specs.Forms.{holes, longest}
use Rattle.lines_writing_law.proofs.ByKind.{by_order}
use Rattle.lines_writing.proofs.write_order.Goals as goal

pub write-requires : goal.write-requires
unfolding holes longest
write-requires c = record { enough = omega arith; short = omega arith }

pub write-requires-in-Ioc : goal.write-requires-in-Ioc
unfolding holes longest
write-requires-in-Ioc c = record { enough = omega arith; short = omega arith }

pub write-requires-in-AllDay-life : goal.write-requires-in-AllDay-life
unfolding holes longest
write-requires-in-AllDay-life c = record { enough = omega arith; short = omega arith }

pub write-requires-in-Ioc-life : goal.write-requires-in-Ioc-life
unfolding holes longest
write-requires-in-Ioc-life c = record { enough = omega arith; short = omega arith }

pub returns-in-AllDay : goal.returns-in-AllDay
returns-in-AllDay c = search by_order

pub returns-in-Ioc : goal.returns-in-Ioc
returns-in-Ioc c = search by_order

pub returns-in-AllDay-life : goal.returns-in-AllDay-life
returns-in-AllDay-life c = search by_order

pub returns-in-Ioc-life : goal.returns-in-Ioc-life
returns-in-Ioc-life c = search by_order
