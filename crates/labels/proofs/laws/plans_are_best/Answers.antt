use Rattle.labels.proofs.Sound.{coarse_settles, plan_settles}
use Rattle.labels.proofs.laws.plans_are_best.Goals as goal

pub returns : goal.returns
returns c = record { exact = plan_settles; coarse = coarse_settles }
