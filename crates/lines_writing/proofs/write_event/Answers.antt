-- One arm for each act, each with the definition's form and numbers.
use native.Mathlib.Omega.{arith}
use Rattle.lines_text_law.specs.Forms.{holes, longest}
use Rattle.lines_writing_law.proofs.ByKind.{by_act, by_side}
use Rattle.lines_writing.proofs.write_event.Goals as goal

pub write_order-requires : goal.write_order-requires
unfolding holes longest
write_order-requires c = (omega arith, omega arith)

pub write_order-requires-in-Sell : goal.write_order-requires-in-Sell
unfolding holes longest
write_order-requires-in-Sell c = (omega arith, omega arith)

pub act_line-requires : goal.act_line-requires
unfolding holes longest
act_line-requires c = record { enough = omega arith; short = omega arith }

pub act_line-requires-in-Under : goal.act_line-requires-in-Under
unfolding holes longest
act_line-requires-in-Under c = record { enough = omega arith; short = omega arith }

pub act_line-requires-in-Clock : goal.act_line-requires-in-Clock
unfolding holes longest
act_line-requires-in-Clock c = record { enough = omega arith; short = omega arith }

pub act_line-requires-in-Finish : goal.act_line-requires-in-Finish
unfolding holes longest
act_line-requires-in-Finish c = record { enough = omega arith; short = omega arith }

pub returns-in-Buy : goal.returns-in-Buy
returns-in-Buy c = search by_side

pub returns-in-Sell : goal.returns-in-Sell
returns-in-Sell c = search by_side

pub returns-in-Withdraw : goal.returns-in-Withdraw
returns-in-Withdraw c = search by_act

pub returns-in-Under : goal.returns-in-Under
returns-in-Under c = search by_act

pub returns-in-Clock : goal.returns-in-Clock
returns-in-Clock c = search by_act

pub returns-in-Finish : goal.returns-in-Finish
returns-in-Finish c = search by_act
