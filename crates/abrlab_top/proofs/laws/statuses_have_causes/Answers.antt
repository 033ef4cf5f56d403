use Rattle.abrlab_top.proofs.Statuses.{statuses}
use Rattle.abrlab_top.proofs.laws.statuses_have_causes.Goals as goal

pub returns : goal.returns
returns c = statuses
