-- At most two boundaries matter: the first sees the minute's trades, and after the second nothing changes any more.
use Rattle.rules_law.proofs.Minutes.{reckonings}
use Rattle.rules.proofs.reference.reckon.Goals as goal

pub returns-then-crossed-eq0 : goal.returns-then-crossed-eq0
returns-then-crossed-eq0 c = search reckonings

pub returns-then-count-eq0 : goal.returns-then-count-eq0
returns-then-count-eq0 c = search reckonings

pub returns-then-crossed-eq1 : goal.returns-then-crossed-eq1
returns-then-crossed-eq1 c = search reckonings

pub returns : goal.returns
returns c = search reckonings
