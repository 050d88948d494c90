-- A price is sound exactly where it is in its range and on the tick, so the two loops together test what the definition asks.
use Rattle.terms.proofs.Logic.{conditions}
use Rattle.soundness_law.proofs.Lists.{prices_decide}
use Rattle.soundness.proofs.numbers.full_sound.Goals as goal

pub returns-then-not-ten_within : goal.returns-then-not-ten_within
returns-then-not-ten_within c = prices_decide _ _ _ _ (search conditions)

pub returns-then-not-ten_ticked : goal.returns-then-not-ten_ticked
returns-then-not-ten_ticked c = prices_decide _ _ _ _ (search conditions)

pub returns : goal.returns
returns c = prices_decide _ _ _ _ (search conditions)
