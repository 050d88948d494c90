-- Each return is one case of the close price: the half hour, the last ten, or else the last trade or the previous close.
use Rattle.rules_law.proofs.Tapes.{closings}
use Rattle.rules.proofs.close.closing.Goals as goal

pub returns-then-t-ge10 : goal.returns-then-t-ge10
returns-then-t-ge10 c = search closings

pub returns-then-t-ge10-2 : goal.returns-then-t-ge10-2
returns-then-t-ge10-2 c = search closings

pub returns : goal.returns
returns c = search closings
