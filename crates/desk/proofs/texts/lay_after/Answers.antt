-- The run's numbers are written, then the two counts.
use Rattle.desk_law.proofs.TextFeeds.{after-laid}
use Rattle.desk.proofs.texts.lay_after.Goals as goal

pub returns : goal.returns
returns c = search after-laid
