use Rattle.std.proofs.Common.{◌≡◌, ℕ, IfOk, Option, subst}
use Rattle.labels.specs.Grid.{Rounding, exact}
use Rattle.frontier_planner.specs.declared.plans.CoarsePlan.{CoarsePlan}
use Rattle.frontier_planner.specs.Planned.{CoarseAnswer, ExactAnswer}
use Rattle.abrlab_top.specs.Plan.{steps_of}
use Rattle.abrlab_top.proofs.Plans.{planned_by}
use Rattle.abrlab_top.proofs.plan.plan_on.Goals as goal

pub returns : goal.returns
returns c =
    let o = c.args.options in
    let g = c.args.scene.now in
    let steps : c.steps_of.result ≡ steps_of o.grid = subst (λ (grid : Option Rounding). c.steps_of.result ≡ steps_of grid) c.grid.ensures c.steps_of.ensures in
    let budget : c.budget.result ≡ o.budget = c.budget.ensures in
    planned_by o.grid g o.budget c.plan_from.result
    (subst (λ (most : ℕ). CoarseAnswer (steps_of o.grid) g most c.plan_from.result) budget
    (subst (λ (d : Rounding). CoarseAnswer d g c.budget.result c.plan_from.result) steps c.plan_from.ensures.coarse))
    (subst (λ (most : ℕ). ExactAnswer (steps_of o.grid) g most c.plan_from.result) budget
    (subst (λ (d : Rounding). ExactAnswer d g c.budget.result c.plan_from.result) steps c.plan_from.ensures.exact))
    (subst (λ (d : Rounding). d ≡ exact → IfOk c.plan_from.result (λ (p : CoarsePlan). p.bound ≡ p.plan.score)) steps c.plan_from.ensures.bound)
