-- Each number is the definition's; category and closed flag come from calls.
use Rattle.desk_packing_law.proofs.Packs.{packed_right}
use Rattle.desk_packing.proofs.sessions.pack.Goals as goal

pub returns : goal.returns
returns c = search packed_right
