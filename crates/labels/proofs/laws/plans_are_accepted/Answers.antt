use Rattle.labels.proofs.Accepts.{accepted}
use Rattle.labels.proofs.Sound.{plan_accepted}
use Rattle.labels.proofs.laws.plans_are_accepted.Goals as goal

pub returns : goal.returns
returns c = record { exact = plan_accepted; coarse = accepted }
