-- The code makes the definition's three tests.
use Rattle.desk_packing_law.proofs.Packs.{session_tested}
use Rattle.desk_packing.proofs.sessions.is_session.Goals as goal

pub returns : goal.returns
returns c = search session_tested
