use Rattle.std.proofs.Common.{◌∙◌, ap, refl, rules, subst, sym}
use Rattle.std.specs.Int.{w128}
use Rattle.std.proofs.lemmas.Int.{to_z-of_z}
use Rattle.lab_inputs.specs.Inputs.{InputValues}
use Rattle.player_core.specs.Scene.{IsTask}
use Rattle.price_bounds.specs.Verdict.{price_parts}
use Rattle.abrlab_top.specs.Choice.{IsBound}
use Rattle.abrlab_top.specs.Plan.{task_on}
use Rattle.abrlab_top.proofs.PriceAnswers.{certificate_bounds}
use Rattle.abrlab_top.proofs.regret.Ranking.bound.Goals as goal

pub scene_on-requires : goal.scene_on-requires
scene_on-requires c = rw c.inputs-inputs.ensures.value c.inputs-inputs.ensures.can.fits.setup

pub returns-clause-bound : goal.returns-clause-bound
returns-clause-bound c =
    let i = c.args.self.now.inputs in
    let seen = c.scene_on.ensures.value ∙ ap (λ (v : InputValues). task_on v c.args.clock.now) c.inputs-inputs.ensures.value in
    subst (IsBound (task_on i c.args.clock.now)) (sym (to_z-of_z w128 c.in_ok-near_best.field-0.bound (search rules)))
    (certificate_bounds _ _ _ (price_parts c.in_ok-near_best.field-0) refl seen c.scene_on.ensures.task c.in_ok-near_best.ensures.valid c.in_ok-near_best.ensures.bound)

pub returns-clause-task : goal.returns-clause-task
returns-clause-task c = subst IsTask (c.scene_on.ensures.value ∙ ap (λ (v : InputValues). task_on v c.args.clock.now) c.inputs-inputs.ensures.value) c.scene_on.ensures.task
