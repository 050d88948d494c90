-- The test is made where an order comes in.
use Rattle.std.proofs.Common.{rules}
use Rattle.terms.specs.Truth.{◌⊓◌}
use Rattle.refusal.proofs.rows.has_numbers.Goals as goal

pub returns : goal.returns
unfolding ◌⊓◌
returns c = search rules
