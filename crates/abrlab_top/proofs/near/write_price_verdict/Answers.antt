use Rattle.std.proofs.Common.{◌≡◌, ◌∙◌, Err, Ok, Some, ap, refl, rules, subst, sym}
use Rattle.std.specs.Int.{w128}
use Rattle.std.proofs.lemmas.Int.{to_z-of_z}
use Rattle.lab_io.proofs.Puts.{puts_as}
use Rattle.std.specs.List.{slice_get}
use Rattle.lab_model.specs.Reading.{Gives}
use Rattle.lab_inputs.specs.Stages.{network_of}
use Rattle.price_bounds.specs.Verdict.{price_parts}
use Rattle.price_text.specs.Reading.{prices_of}
use Rattle.abrlab_top.specs.declared.ending.Ending.TheVariants as ending
use Rattle.abrlab_top.specs.Near.{near_check}
use Rattle.abrlab_top.specs.Plan.{task_on}
use Rattle.abrlab_top.specs.Stages.{Writes, of_a_price_check}
use Rattle.abrlab_top.proofs.PriceAnswers.{bad_prices, misfit_prices, no_check_network, price_done, price_failed, price_text_as, prices_told}
use Rattle.abrlab_top.proofs.Whole.{all_settled, exit, none_there, nothing_printed, some_there, unsettled, wanting}
use Rattle.abrlab_top.proofs.near.write_price_verdict.Goals as goal

pub returns-in_default : goal.returns-in_default
returns-in_default g c = nothing_printed of_a_price_check (near_check c.args.inputs.now) (g.O.Sink.seen c.args.out.now) (no_check_network c.args.inputs.now (none_there _ _ _ c.in_default.is c.network.ensures))

pub returns-in-Err : goal.returns-in-Err
returns-in-Err g c =
    let i = c.args.inputs.now in
    let network : slice_get i.networks 0 ≡ Some (network_of c.in-Some.network.now) = some_there _ _ _ _ c.in-Some.is c.network.ensures in
    let bad : Gives price_parts (Err c.in-Err.fault) (prices_of i.certificate) = subst (λ bytes. Gives price_parts (Err c.in-Err.fault) (prices_of bytes)) c.certificate.ensures c.in-Err.ensures.exact in
    subst (λ e. Writes of_a_price_check (near_check i) (g.O.Sink.seen c.args.out.now) e (g.O.Sink.seen c.args.out.now)) (sym c.bad_line.ensures) (bad_prices i _ c.in-Err.fault _ network bad)

pub returns-in_err-fit : goal.returns-in_err-fit
returns-in_err-fit g c =
    let i = c.args.inputs.now in
    let network : slice_get i.networks 0 ≡ Some (network_of c.in-Some.network.now) = some_there _ _ _ _ c.in-Some.is c.network.ensures in
    let read : prices_of i.certificate ≡ Ok (price_parts c.in-Ok.certificate) = subst (λ bytes. Gives price_parts (Ok c.in-Ok.certificate) (prices_of bytes)) c.certificate.ensures c.in-Ok.ensures.exact in
    let stop = unsettled i c.fit.result _ c.in_err-fit.was c.fit.ensures in
    exit of_a_price_check (near_check i) _ _ c.from_residual.result _ c.from_residual.ensures.1 (misfit_prices i _ _ _ _ network read stop)

pub returns-in_err-verdict : goal.returns-in_err-verdict
returns-in_err-verdict g c =
    exit of_a_price_check (near_check c.args.inputs.now) _ _ c.from_residual-in_err-verdict.result ending.NoMemory c.from_residual-in_err-verdict.ensures.1 (wanting of_a_price_check (near_check c.args.inputs.now) _)

pub returns-in_err-put_price_verdict : goal.returns-in_err-put_price_verdict
returns-in_err-put_price_verdict g c =
    let i = c.args.inputs.now in
    let network : slice_get i.networks 0 ≡ Some (network_of c.in-Some.network.now) = some_there _ _ _ _ c.in-Some.is c.network.ensures in
    let read : prices_of i.certificate ≡ Ok (price_parts c.in-Ok.certificate) = subst (λ bytes. Gives price_parts (Ok c.in-Ok.certificate) (prices_of bytes)) c.certificate.ensures c.in-Ok.ensures.exact in
    let fits = all_settled i c.fit.result _ c.in_ok-fit.was c.fit.ensures in
    let task = c.scene_on-scene.ensures.value ∙ ap (task_on i) c.in_ok-clock.ensures.clock in
    let p = price_parts c.in-Ok.certificate in
    let told = prices_told i (network_of c.in-Some.network.now) p _ _ c.in_ok-verdict.verdict network read fits.0 refl task c.in_ok-verdict.ensures.verdict in
    let score = to_z-of_z w128 c.in-Ok.certificate.score (search rules) in
    let bound = to_z-of_z w128 c.in-Ok.certificate.bound (search rules) in
    let put = puts_as _ _ _ _ _ (price_text_as _ _ _ _ c.in_ok-verdict.verdict score bound) c.put_price_verdict.ensures in
    exit of_a_price_check (near_check i) _ _ c.from_residual-in_err-put_price_verdict.result _ c.from_residual-in_err-put_price_verdict.ensures.1
    (price_failed i p.score p.bound c.in_ok-verdict.verdict _ _ c.put_price_verdict.result _ told c.in_err-put_price_verdict.was put)

pub returns : goal.returns
returns g c =
    let i = c.args.inputs.now in
    let network : slice_get i.networks 0 ≡ Some (network_of c.in-Some.network.now) = some_there _ _ _ _ c.in-Some.is c.network.ensures in
    let read : prices_of i.certificate ≡ Ok (price_parts c.in-Ok.certificate) = subst (λ bytes. Gives price_parts (Ok c.in-Ok.certificate) (prices_of bytes)) c.certificate.ensures c.in-Ok.ensures.exact in
    let fits = all_settled i c.fit.result _ c.in_ok-fit.was c.fit.ensures in
    let task = c.scene_on-scene.ensures.value ∙ ap (task_on i) c.in_ok-clock.ensures.clock in
    let p = price_parts c.in-Ok.certificate in
    let told = prices_told i (network_of c.in-Some.network.now) p _ _ c.in_ok-verdict.verdict network read fits.0 refl task c.in_ok-verdict.ensures.verdict in
    let score = to_z-of_z w128 c.in-Ok.certificate.score (search rules) in
    let bound = to_z-of_z w128 c.in-Ok.certificate.bound (search rules) in
    let put = puts_as _ _ _ _ _ (price_text_as _ _ _ _ c.in_ok-verdict.verdict score bound) c.put_price_verdict.ensures in
    subst (λ e. Writes of_a_price_check (near_check i) (g.O.Sink.seen c.args.out.now) e (g.O.Sink.seen c.put_price_verdict.new.out)) (sym c.price_end.ensures)
    (price_done i p.score p.bound c.in_ok-verdict.verdict _ _ c.put_price_verdict.result _ told c.in_ok-put_price_verdict.was put)
