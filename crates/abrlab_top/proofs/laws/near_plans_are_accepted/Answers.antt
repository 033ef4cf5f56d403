use Rattle.abrlab_top.proofs.NearProved.{near_runs_accepted}
use Rattle.abrlab_top.proofs.laws.near_plans_are_accepted.Goals as goal

pub returns : goal.returns
returns c = near_runs_accepted
