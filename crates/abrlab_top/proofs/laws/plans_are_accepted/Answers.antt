use Rattle.abrlab_top.proofs.Accepted.{runs_accepted}
use Rattle.abrlab_top.proofs.laws.plans_are_accepted.Goals as goal

pub returns : goal.returns
returns c = runs_accepted
