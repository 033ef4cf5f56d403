use Rattle.std.proofs.Common.{◌≡◌, ◌∙◌, Some, ap, subst, sym}
use Rattle.std.specs.List.{slice_get}
use Rattle.lab_inputs.specs.Stages.{network_of}
use Rattle.abrlab_top.specs.Plan.{plan, planned_on}
use Rattle.abrlab_top.specs.Ending.{ended}
use Rattle.abrlab_top.specs.Stages.{Writes, at_the_end}
use Rattle.abrlab_top.proofs.Plans.{no_network, plan_stopped, planned_there}
use Rattle.abrlab_top.proofs.Whole.{all_settled, exit, none_there, nothing_printed, settings_stop, some_there, unsettled, wanting}
use Rattle.abrlab_top.proofs.plan.write_plan.Goals as goal

pub returns-in_default : goal.returns-in_default
returns-in_default g c = nothing_printed at_the_end (plan c.args.options c.args.inputs.now) (g.O.Sink.seen c.args.out.now) (no_network c.args.options c.args.inputs.now (none_there _ _ _ c.in_default.is c.network.ensures))

pub returns-in_err-fit : goal.returns-in_err-fit
returns-in_err-fit g c =
    let i = c.args.inputs.now in
    let stop = unsettled i c.fit.result _ c.in_err-fit.was c.fit.ensures in
    exit at_the_end (plan c.args.options i) _ _ c.from_residual.result _ c.from_residual.ensures.1
    (settings_stop at_the_end i (plan c.args.options i) _ _ stop (plan_stopped c.args.options i _ _ (some_there _ _ _ _ c.in-Some.is c.network.ensures) stop))

pub returns-in_err-clock : goal.returns-in_err-clock
returns-in_err-clock g c = exit at_the_end (plan c.args.options c.args.inputs.now) _ _ c.from_residual-in_err-clock.result _ c.from_residual-in_err-clock.ensures.1 (wanting at_the_end (plan c.args.options c.args.inputs.now) _)

pub scene_on-scene-requires : goal.scene_on-scene-requires
scene_on-scene-requires g c = (all_settled c.args.inputs.now c.fit.result _ c.in_ok-fit.was c.fit.ensures).1.setup

pub returns-then-as_certificate : goal.returns-then-as_certificate
returns-then-as_certificate g c =
    let i = c.args.inputs.now in
    let network : slice_get i.networks 0 ≡ Some (network_of c.in-Some.network.now) = some_there _ _ _ _ c.in-Some.is c.network.ensures in
    let fits = all_settled i c.fit.result _ c.in_ok-fit.was c.fit.ensures in
    let same = planned_there c.args.options i _ c.in_ok-clock.clock network fits.0 c.in_ok-clock.ensures.clock ∙ ap (planned_on c.args.options) (sym c.scene_on-scene.ensures.value) in
    subst (λ m. Writes at_the_end m (g.O.Sink.seen c.args.out.now) (ended c.write_proof.result) (g.O.Sink.seen c.write_proof.new.out)) (sym same) c.write_proof.ensures

pub returns : goal.returns
returns g c =
    let i = c.args.inputs.now in
    let network : slice_get i.networks 0 ≡ Some (network_of c.in-Some.network.now) = some_there _ _ _ _ c.in-Some.is c.network.ensures in
    let fits = all_settled i c.fit.result _ c.in_ok-fit.was c.fit.ensures in
    let same = planned_there c.args.options i _ c.in_ok-clock.clock network fits.0 c.in_ok-clock.ensures.clock ∙ ap (planned_on c.args.options) (sym c.scene_on-scene.ensures.value) in
    subst (λ m. Writes at_the_end m (g.O.Sink.seen c.args.out.now) (ended c.write_list.result) (g.O.Sink.seen c.write_list.new.out)) (sym same) c.write_list.ensures
