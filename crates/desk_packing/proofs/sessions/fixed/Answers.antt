-- The session of zeros is the fixed session.
use Rattle.desk_packing_law.proofs.Packs.{zeros_fixed}
use Rattle.desk_packing.proofs.sessions.fixed.Goals as goal

pub returns : goal.returns
returns c = search zeros_fixed
