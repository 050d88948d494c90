-- A price in its range is small enough for the factor.
use Rattle.terms.proofs.Logic.{conditions}
use Rattle.soundness.proofs.numbers.price_sound.Goals as goal

pub returns-then-not-is_price : goal.returns-then-not-is_price
returns-then-not-is_price c = search conditions

pub returns : goal.returns
returns c = search conditions
