-- Each return is one case: the numbers are a session's, or not.
use Rattle.desk_packing_law.proofs.Packs.{no-session, a_session}
use Rattle.desk_packing.proofs.sessions.unpack.Goals as goal

pub returns-then-not-is_session : goal.returns-then-not-is_session
returns-then-not-is_session c = search no-session

pub returns : goal.returns
returns c = search a_session
