use Rattle.shared_link.proofs.Own.{session_own}
use Rattle.shared_link.proofs.laws.sessions_are_own.Goals as goal

pub returns : goal.returns
returns c = session_own
