-- Each return is one case: tables and room are long enough, or not.
use Rattle.desk_law.proofs.Applying.{strange_small, strange_unsound}
use Rattle.desk.proofs.calls.turned_away.Goals as goal

pub returns-then-not-is_roomy : goal.returns-then-not-is_roomy
returns-then-not-is_roomy c = search strange_small

pub returns : goal.returns
returns c = search strange_unsound
