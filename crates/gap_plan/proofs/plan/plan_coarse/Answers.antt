use Rattle.std.proofs.Common.{IfOk, subst}
use Rattle.player_core.specs.Scene.{Task}
use Rattle.gap_plan.specs.Gap.{CertifiesGap}
use Rattle.gap_plan.proofs.Certifies.{certifies}
use Rattle.gap_plan.proofs.plan.plan_coarse.Goals as goal

pub returns-clause-certificate : goal.returns-clause-certificate
returns-clause-certificate c =
    subst (λ (t : Task). IfOk c.plan_from.result (CertifiesGap t)) c.on_demand.ensures.value
    (certifies c.args.grid c.on_demand.result _ c.plan_from.result c.plan_from.ensures.coarse)
