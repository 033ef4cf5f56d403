use Rattle.player_core.proofs.Tasks.{sessions_end}
use Rattle.player_core.proofs.laws.sessions_end.Goals as goal

pub returns : goal.returns
returns c = sessions_end
