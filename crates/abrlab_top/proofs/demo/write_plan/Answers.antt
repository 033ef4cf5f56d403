use Rattle.std.proofs.Common.{rules}
use mir.Val.{SFits}
use Rattle.std.specs.Int.{w128}
use Rattle.std.proofs.lemmas.Int.{to_z-of_z}
use Rattle.abrlab_top.specs.Demo.{task_in}
use Rattle.abrlab_top.proofs.MadeCase.{plan_cut, plan_form, plan_told}
use Rattle.abrlab_top.proofs.demo.write_plan.Goals as goal

pub returns-in_err-put_plan : goal.returns-in_err-put_plan
returns-in_err-put_plan g c =
    let small : SFits w128 c.in-Ok.plan.score = search rules in
    plan_cut (task_in c.args.case.now c.args.clock.now) c.in-Ok.plan 200000 _ _ _ _ c.from_residual.result _ (to_z-of_z w128 c.in-Ok.plan.score small) c.in-Ok.ensures c.in_err-put_plan.was c.from_residual.ensures.1 c.put_plan.ensures

pub check-requires-clause-form : goal.check-requires-clause-form
check-requires-clause-form g c = plan_form (task_in c.args.case.now c.args.clock.now) c.in-Ok.plan 200000 c.certificate_of-certificate.result c.requires.task c.in-Ok.ensures c.certificate_of-certificate.ensures

pub returns : goal.returns
returns g c =
    let small : SFits w128 c.in-Ok.plan.score = search rules in
    plan_told (task_in c.args.case.now c.args.clock.now) c.in-Ok.plan 200000 _ _ _ _ _ c.put_fields.result _ (to_z-of_z w128 c.in-Ok.plan.score small) c.in-Ok.ensures c.in_ok-put_plan.was c.put_plan.ensures c.put_fields.ensures
