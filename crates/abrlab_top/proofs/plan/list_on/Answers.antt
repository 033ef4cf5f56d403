use Rattle.std.proofs.Common.{◌≡◌, ℕ, Option, subst}
use Rattle.labels.specs.Frontier.{frontier}
use Rattle.labels.specs.Grid.{Rounding, exact}
use Rattle.labels.specs.Grown.{grown}
use Rattle.frontier_planner.specs.Planned.{ListAnswer}
use Rattle.abrlab_top.specs.Plan.{steps_of}
use Rattle.abrlab_top.proofs.Plans.{listed_by}
use Rattle.abrlab_top.proofs.plan.list_on.Goals as goal

pub returns-clause-answer : goal.returns-clause-answer
returns-clause-answer c =
    let o = c.args.options in
    let g = c.args.scene.now in
    let steps : c.steps_of.result ≡ steps_of o.grid = subst (λ (grid : Option Rounding). c.steps_of.result ≡ steps_of grid) c.grid.ensures c.steps_of.ensures in
    let budget : c.budget.result ≡ o.budget = c.budget.ensures in
    listed_by o.grid g o.budget c.list_from.result
    (subst (λ (most : ℕ). ListAnswer (steps_of o.grid) g (grown (steps_of o.grid) g) most c.list_from.result) budget
    (subst (λ (d : Rounding). ListAnswer d g (grown d g) c.budget.result c.list_from.result) steps c.list_from.ensures.coarse))
    (subst (λ (most : ℕ). steps_of o.grid ≡ exact → ListAnswer exact g (frontier g) most c.list_from.result) budget
    (subst (λ (d : Rounding). d ≡ exact → ListAnswer exact g (frontier g) c.budget.result c.list_from.result) steps c.list_from.ensures.exact))
