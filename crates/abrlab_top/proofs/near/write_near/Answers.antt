use Rattle.std.proofs.Common.{◌≡◌, ◌∙◌, Some, ap, refl}
use Rattle.std.specs.List.{slice_get}
use Rattle.lab_inputs.specs.Stages.{network_of}
use Rattle.price_bounds.specs.Verdict.{price_parts}
use Rattle.abrlab_top.specs.declared.ending.Ending.TheVariants as ending
use Rattle.abrlab_top.specs.Answer.{printed}
use Rattle.abrlab_top.specs.Choice.{IsNearBest, no_choice}
use Rattle.abrlab_top.specs.Near.{near_plan, near_text}
use Rattle.abrlab_top.specs.Plan.{task_on}
use Rattle.abrlab_top.specs.Stages.{at_the_end}
use Rattle.abrlab_top.proofs.Chosen.{near_of_none, near_on, near_unwritten}
use Rattle.abrlab_top.proofs.PriceAnswers.{found_near, near_stopped, near_told, no_near_network}
use Rattle.abrlab_top.proofs.Whole.{all_settled, exit, none_there, nothing_printed, put_done, put_failed, settings_stop, some_there, unsettled, wanting}
use Rattle.abrlab_top.proofs.near.write_near.Goals as goal

pub returns-in_default : goal.returns-in_default
returns-in_default g c =
    let i = c.args.inputs.now in
    let none = none_there _ _ _ c.in_default.is c.network.ensures in
    near_of_none c.args.as_certificate i (g.O.Sink.seen c.args.out.now) none
    (nothing_printed at_the_end (near_plan c.args.as_certificate no_choice.certificate i) (g.O.Sink.seen c.args.out.now) (no_near_network c.args.as_certificate no_choice.certificate i none))

pub returns-in_err-fit : goal.returns-in_err-fit
returns-in_err-fit g c =
    let i = c.args.inputs.now in
    let stop = unsettled i c.fit.result _ c.in_err-fit.was c.fit.ensures in
    near_unwritten c.args.as_certificate i _ _ c.from_residual.result _ c.from_residual.ensures.1 (λ h. h)
    (settings_stop at_the_end i (near_plan c.args.as_certificate no_choice.certificate i) _ _ stop (near_stopped c.args.as_certificate no_choice.certificate i _ _ (some_there _ _ _ _ c.in-Some.is c.network.ensures) stop))

pub returns-in_err-clock : goal.returns-in_err-clock
returns-in_err-clock g c =
    near_unwritten c.args.as_certificate c.args.inputs.now _ _ c.from_residual-in_err-clock.result ending.NoMemory c.from_residual-in_err-clock.ensures.1 (λ h. h) (wanting at_the_end (near_plan c.args.as_certificate no_choice.certificate c.args.inputs.now) _)

pub scene_on-scene-requires : goal.scene_on-scene-requires
scene_on-scene-requires g c = (all_settled c.args.inputs.now c.fit.result _ c.in_ok-fit.was c.fit.ensures).1.setup

pub returns-in_err-certificate : goal.returns-in_err-certificate
returns-in_err-certificate g c =
    near_unwritten c.args.as_certificate c.args.inputs.now _ _ c.from_residual-in_err-certificate.result ending.NoMemory c.from_residual-in_err-certificate.ensures.1 (λ h. h) (wanting at_the_end (near_plan c.args.as_certificate no_choice.certificate c.args.inputs.now) _)

pub put_near-requires : goal.put_near-requires
put_near-requires g c =
    let i = c.args.inputs.now in
    let task = c.scene_on-scene.ensures.value ∙ ap (task_on i) c.in_ok-clock.ensures.clock in
    let found = found_near _ _ _ (price_parts c.in_ok-certificate.certificate) refl task c.scene_on-scene.ensures.task c.in_ok-certificate.ensures.valid c.in_ok-certificate.ensures.score c.in_ok-certificate.ensures.bound c.in_ok-certificate.ensures.exact in
    record { form = found.form }

pub returns-in_err-put_near : goal.returns-in_err-put_near
returns-in_err-put_near g c =
    let i = c.args.inputs.now in
    let whole = c.args.as_certificate in
    let p = price_parts c.in_ok-certificate.certificate in
    let network : slice_get i.networks 0 ≡ Some (network_of c.in-Some.network.now) = some_there _ _ _ _ c.in-Some.is c.network.ensures in
    let fits = all_settled i c.fit.result _ c.in_ok-fit.was c.fit.ensures in
    let task = c.scene_on-scene.ensures.value ∙ ap (task_on i) c.in_ok-clock.ensures.clock in
    let found : IsNearBest (task_on i c.in-Some.network.now.trace) p = found_near _ _ _ p refl task c.scene_on-scene.ensures.task c.in_ok-certificate.ensures.valid c.in_ok-certificate.ensures.score c.in_ok-certificate.ensures.bound c.in_ok-certificate.ensures.exact in
    record {
      certificate = p;
      is = λ h. near_on i (network_of c.in-Some.network.now) p network found;
      writes = exit at_the_end (near_plan whole p i) _ _ c.from_residual-in_err-put_near.result _ c.from_residual-in_err-put_near.ensures.1
          (put_failed at_the_end (near_plan whole p i) (printed (near_text whole p)) _ _ c.put_near.result _ (near_told whole p i _ network fits.0) tt c.in_err-put_near.was c.put_near.ensures);
    }

pub returns : goal.returns
returns g c =
    let i = c.args.inputs.now in
    let whole = c.args.as_certificate in
    let p = price_parts c.in_ok-certificate.certificate in
    let network : slice_get i.networks 0 ≡ Some (network_of c.in-Some.network.now) = some_there _ _ _ _ c.in-Some.is c.network.ensures in
    let fits = all_settled i c.fit.result _ c.in_ok-fit.was c.fit.ensures in
    let task = c.scene_on-scene.ensures.value ∙ ap (task_on i) c.in_ok-clock.ensures.clock in
    let found : IsNearBest (task_on i c.in-Some.network.now.trace) p = found_near _ _ _ p refl task c.scene_on-scene.ensures.task c.in_ok-certificate.ensures.valid c.in_ok-certificate.ensures.score c.in_ok-certificate.ensures.bound c.in_ok-certificate.ensures.exact in
    record {
      certificate = p;
      is = λ h. near_on i (network_of c.in-Some.network.now) p network found;
      writes = put_done at_the_end (near_plan whole p i) (near_text whole p) _ _ c.put_near.result _ (near_told whole p i _ network fits.0) c.in_ok-put_near.was c.put_near.ensures;
    }
