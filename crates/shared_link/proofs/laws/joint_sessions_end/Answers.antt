use Rattle.shared_link.proofs.Own.{joint_ends}
use Rattle.shared_link.proofs.laws.joint_sessions_end.Goals as goal

pub returns : goal.returns
returns c = joint_ends
