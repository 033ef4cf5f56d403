use Rattle.std.proofs.Common.{◌≡◌, ◌∙◌, Some, ap}
use Rattle.std.specs.List.{slice_get}
use Rattle.lab_io.proofs.Puts.{puts_as}
use Rattle.lab_words.specs.Command.{named}
use Rattle.lab_words.specs.Rules.{spoken}
use Rattle.player_core.specs.Session.{shown}
use Rattle.abrlab_top.specs.Answer.{printed}
use Rattle.abrlab_top.specs.Rules.{kind_of}
use Rattle.lab_inputs.specs.Stages.{network_of}
use Rattle.player_core.specs.Scene.{Task}
use Rattle.abrlab_top.specs.Plan.{task_on}
use Rattle.abrlab_top.specs.Simulate.{session_on, simulate}
use Rattle.abrlab_top.specs.Stages.{at_the_end}
use Rattle.abrlab_top.proofs.Simulated.{no_network, no_rule, played, rule_fits, simulate_stopped, simulated}
use Rattle.abrlab_top.proofs.Whole.{all_settled, exit, none_there, nothing_printed, put_done, put_failed, settings_stop, some_there, unsettled, wanting}
use Rattle.abrlab_top.proofs.simulate.write_simulation.Goals as goal

pub returns-in_default : goal.returns-in_default
returns-in_default g c = nothing_printed at_the_end (simulate c.args.inputs.now) (g.O.Sink.seen c.args.out.now) (no_network c.args.inputs.now (none_there _ _ _ c.in_default.is c.network.ensures))

pub returns-in_default-rule : goal.returns-in_default-rule
returns-in_default-rule g c = nothing_printed at_the_end (simulate c.args.inputs.now) (g.O.Sink.seen c.args.out.now) (no_rule c.args.inputs.now (none_there _ _ _ c.in_default-rule.is c.rule.ensures.value))

pub returns-in_err-fit : goal.returns-in_err-fit
returns-in_err-fit g c =
    let i = c.args.inputs.now in
    let stop = unsettled i c.fit.result _ c.in_err-fit.was c.fit.ensures in
    exit at_the_end (simulate i) _ _ c.from_residual.result _ c.from_residual.ensures.1
    (settings_stop at_the_end i (simulate i) _ _ stop (simulate_stopped i _ _ _ (some_there _ _ _ _ c.in-Some.is c.network.ensures) (some_there _ _ _ _ c.in-Some-rule.is c.rule.ensures.value) stop))

pub returns-in_err-clock : goal.returns-in_err-clock
returns-in_err-clock g c = exit at_the_end (simulate c.args.inputs.now) _ _ c.from_residual-in_err-clock.result _ c.from_residual-in_err-clock.ensures.1 (wanting at_the_end (simulate c.args.inputs.now) _)

pub returns-in_err-rule : goal.returns-in_err-rule
returns-in_err-rule g c = exit at_the_end (simulate c.args.inputs.now) _ _ c.from_residual-in_err-rule.result _ c.from_residual-in_err-rule.ensures.1 (wanting at_the_end (simulate c.args.inputs.now) _)

pub play_from-requires-clause-rule : goal.play_from-requires-clause-rule
play_from-requires-clause-rule g c =
    let i = c.args.inputs.now in
    let rule : slice_get i.rules 0 ≡ Some (named c.in-Some-rule.rule.now) = some_there _ _ _ _ c.in-Some-rule.is c.rule.ensures.value in
    rule_fits i c.scene_on-scene.result.film (kind_of c.in_ok-rule.rule) _ rule (all_settled i c.fit.result _ c.in_ok-fit.was c.fit.ensures).1.rules c.in_ok-rule.ensures.kind (ap (λ (t : Task). t.film) c.scene_on-scene.ensures.value)

pub play_from-requires-clause-seeks : goal.play_from-requires-clause-seeks
play_from-requires-clause-seeks g c = rw (ap (λ (t : Task). t.film) c.scene_on-scene.ensures.value) c.seeks.ensures.fit

pub scene_on-scene-requires : goal.scene_on-scene-requires
scene_on-scene-requires g c = (all_settled c.args.inputs.now c.fit.result _ c.in_ok-fit.was c.fit.ensures).1.setup

pub returns-in_err-session : goal.returns-in_err-session
returns-in_err-session g c = exit at_the_end (simulate c.args.inputs.now) _ _ c.from_residual-in_err-session.result _ c.from_residual-in_err-session.ensures.1 (wanting at_the_end (simulate c.args.inputs.now) _)

pub returns-in_err-write_session : goal.returns-in_err-write_session
returns-in_err-write_session g c =
    let i = c.args.inputs.now in
    let network : slice_get i.networks 0 ≡ Some (network_of c.in-Some.network.now) = some_there _ _ _ _ c.in-Some.is c.network.ensures in
    let rule : slice_get i.rules 0 ≡ Some (named c.in-Some-rule.rule.now) = some_there _ _ _ _ c.in-Some-rule.is c.rule.ensures.value in
    let fits = all_settled i c.fit.result _ c.in_ok-fit.was c.fit.ensures in
    let text = played i c.in-Some.network.now.trace c.scene_on-scene.result c.seeks.result.now (kind_of c.in_ok-rule.rule) (spoken c.in-Some-rule.rule.now.rule) (shown c.in_ok-session.session) c.setup.result.now
    c.in_ok-session.ensures.session (c.scene_on-scene.ensures.value ∙ ap (task_on i) c.in_ok-clock.ensures.clock) c.seeks.ensures.value c.in_ok-rule.ensures.kind c.setup.ensures in
    exit at_the_end (simulate i) _ _ c.from_residual-in_err-write_session.result _ c.from_residual-in_err-write_session.ensures.1
    (put_failed at_the_end (simulate i) (printed (session_on i c.in-Some.network.now.trace (spoken c.in-Some-rule.rule.now.rule))) _ _ c.write_session.result _ (simulated i _ _ network rule fits.0) tt c.in_err-write_session.was (puts_as _ _ _ _ _ text c.write_session.ensures))

pub returns : goal.returns
returns g c =
    let i = c.args.inputs.now in
    let network : slice_get i.networks 0 ≡ Some (network_of c.in-Some.network.now) = some_there _ _ _ _ c.in-Some.is c.network.ensures in
    let rule : slice_get i.rules 0 ≡ Some (named c.in-Some-rule.rule.now) = some_there _ _ _ _ c.in-Some-rule.is c.rule.ensures.value in
    let fits = all_settled i c.fit.result _ c.in_ok-fit.was c.fit.ensures in
    let text = played i c.in-Some.network.now.trace c.scene_on-scene.result c.seeks.result.now (kind_of c.in_ok-rule.rule) (spoken c.in-Some-rule.rule.now.rule) (shown c.in_ok-session.session) c.setup.result.now
    c.in_ok-session.ensures.session (c.scene_on-scene.ensures.value ∙ ap (task_on i) c.in_ok-clock.ensures.clock) c.seeks.ensures.value c.in_ok-rule.ensures.kind c.setup.ensures in
    put_done at_the_end (simulate i) (session_on i c.in-Some.network.now.trace (spoken c.in-Some-rule.rule.now.rule)) _ _ c.write_session.result _ (simulated i _ _ network rule fits.0) c.in_ok-write_session.was (puts_as _ _ _ _ _ text c.write_session.ensures)
