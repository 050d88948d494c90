-- Each section is what its call returns.
use Rattle.desk_packing_law.proofs.Packs.{sections}
use Rattle.desk_packing.proofs.sessions.session_of.Goals as goal

pub returns : goal.returns
returns c = search sections
