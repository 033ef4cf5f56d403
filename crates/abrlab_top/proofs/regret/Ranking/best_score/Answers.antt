use Rattle.std.proofs.Common.{◌∙◌, Ok, Err, ap, rules, subst}
use mir.Val.{SFits}
use Rattle.std.specs.Int.{w128}
use Rattle.std.proofs.lemmas.Int.{to_z-of_z}
use Rattle.lab_inputs.specs.Inputs.{InputValues}
use Rattle.player_core.specs.Scene.{IsTask, Task}
use Rattle.frontier_planner.specs.declared.plans.PlanErr.TheVariants as planned
use Rattle.abrlab_top.specs.Plan.{IsListFound, task_on}
use Rattle.abrlab_top.proofs.Regrets.{best_listed, best_spent}
use Rattle.abrlab_top.proofs.regret.Ranking.best_score.Goals as goal

pub scene_on-requires : goal.scene_on-requires
scene_on-requires c = rw c.inputs-inputs.ensures.value c.inputs-inputs.ensures.can.fits.setup

pub returns-in-Ok-clause-best : goal.returns-in-Ok-clause-best
returns-in-Ok-clause-best c =
    let small : SFits w128 c.in-Ok.list.score = search rules in
    let seen = c.scene_on.ensures.value ∙ ap (λ (v : InputValues). task_on v c.args.clock.now) c.inputs-inputs.ensures.value in
    let answer = subst (λ (t : Task). IsListFound c.exact.result.grid t c.exact.result.budget (Ok c.in-Ok.list)) seen c.in-Ok.ensures.answer in
    let given = best_listed c.args.self.now.inputs c.args.clock.now c.args.budget c.args.place c.exact.result c.in-Ok.list c.exact.ensures answer in
    (given.0, to_z-of_z w128 c.in-Ok.list.score small ∙ given.1)

pub returns-in-Ok-clause-task : goal.returns-in-Ok-clause-task
returns-in-Ok-clause-task c = subst IsTask (c.scene_on.ensures.value ∙ ap (λ (v : InputValues). task_on v c.args.clock.now) c.inputs-inputs.ensures.value) c.scene_on.ensures.task

pub returns-in-Err-BudgetSpent-clause-best : goal.returns-in-Err-BudgetSpent-clause-best
returns-in-Err-BudgetSpent-clause-best c =
    let seen = c.scene_on.ensures.value ∙ ap (λ (v : InputValues). task_on v c.args.clock.now) c.inputs-inputs.ensures.value in
    let answer = subst (λ (t : Task). IsListFound c.exact.result.grid t c.exact.result.budget (Err (planned.BudgetSpent c.in-Err-BudgetSpent.segment))) seen
    (rw c.in-Err-BudgetSpent.field-0-is at c.in-Err-BudgetSpent.ensures.answer) in
    best_spent c.args.self.now.inputs c.args.clock.now c.args.budget c.args.place c.in-Err-BudgetSpent.segment c.exact.result c.exact.ensures answer

pub returns-in-Err-BudgetSpent-clause-task : goal.returns-in-Err-BudgetSpent-clause-task
returns-in-Err-BudgetSpent-clause-task c = subst IsTask (c.scene_on.ensures.value ∙ ap (λ (v : InputValues). task_on v c.args.clock.now) c.inputs-inputs.ensures.value) c.scene_on.ensures.task

pub returns-in-Err-Memory-clause-task : goal.returns-in-Err-Memory-clause-task
returns-in-Err-Memory-clause-task c = subst IsTask (c.scene_on.ensures.value ∙ ap (λ (v : InputValues). task_on v c.args.clock.now) c.inputs-inputs.ensures.value) c.scene_on.ensures.task
