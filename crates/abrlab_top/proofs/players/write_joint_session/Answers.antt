use Rattle.std.proofs.Common.{◌≡◌, ◌∙◌, Some, map, refl, subst, sym}
use Rattle.std.specs.List.{All, slice_get}
use Rattle.lab_io.proofs.Puts.{puts_as}
use Rattle.lab_inputs.specs.Stages.{network_of}
use Rattle.shared_link.specs.Joint.{joint_of, joint_session}
use Rattle.shared_link.specs.Table.{AreSessions, IsWholeSession}
use Rattle.abrlab_top.specs.Answer.{printed}
use Rattle.abrlab_top.specs.Players.{joint_on, joint_text, play_jointly}
use Rattle.abrlab_top.specs.Rules.{kind_of}
use Rattle.abrlab_top.specs.Stages.{at_the_end}
use Rattle.abrlab_top.proofs.Jointly.{all_reported, are_of, as_many, case_is, jointly_stopped, kinds_are, kinds_fit, no_network, played_jointly, texts_are}
use Rattle.abrlab_top.proofs.Networks.{rules_within}
use Rattle.abrlab_top.proofs.Whole.{all_settled, exit, none_there, nothing_printed, put_done, put_failed, settings_stop, some_there, unsettled, wanting}
use Rattle.abrlab_top.proofs.players.write_joint_session.Goals as goal

pub returns-in_default : goal.returns-in_default
returns-in_default g c = nothing_printed at_the_end (play_jointly c.args.inputs.now) (g.O.Sink.seen c.args.out.now) (no_network c.args.inputs.now (none_there _ _ _ c.in_default.is c.network.ensures))

pub returns-in_err-fit : goal.returns-in_err-fit
returns-in_err-fit g c =
    let i = c.args.inputs.now in
    let stop = unsettled i c.fit.result _ c.in_err-fit.was c.fit.ensures in
    exit at_the_end (play_jointly i) _ _ c.from_residual.result _ c.from_residual.ensures.1
    (settings_stop at_the_end i (play_jointly i) _ _ stop (jointly_stopped i _ _ (some_there _ _ _ _ c.in-Some.is c.network.ensures) stop))

pub any_rules-requires : goal.any_rules-requires
any_rules-requires g c = rules_within c.args.inputs.now c.rules.result.now c.rules.ensures.value c.rules.ensures.within

pub returns-in_err-rules : goal.returns-in_err-rules
returns-in_err-rules g c = exit at_the_end (play_jointly c.args.inputs.now) _ _ c.from_residual-in_err-rules.result _ c.from_residual-in_err-rules.ensures.1 (wanting at_the_end (play_jointly c.args.inputs.now) _)

pub play_shared-requires-clause-players : goal.play_shared-requires-clause-players
play_shared-requires-clause-players g c =
    let i = c.args.inputs.now in
    as_many i c.in_ok-rules.rules.items (kinds_are i c.rules.result.now c.in_ok-rules.rules.items c.rules.ensures.value c.in_ok-rules.ensures.kinds) c.requires.players

pub play_shared-requires-clause-keeps : goal.play_shared-requires-clause-keeps
play_shared-requires-clause-keeps g c = rw c.setup.ensures c.requires.keeps

pub play_shared-requires-clause-rules : goal.play_shared-requires-clause-rules
play_shared-requires-clause-rules g c =
    let i = c.args.inputs.now in
    kinds_fit i c.in_ok-rules.rules.items c.manifest.result.now (kinds_are i c.rules.result.now c.in_ok-rules.rules.items c.rules.ensures.value c.in_ok-rules.ensures.kinds) c.manifest.ensures (all_settled i c.fit.result _ c.in_ok-fit.was c.fit.ensures).1.rules

pub returns-in_err-joint : goal.returns-in_err-joint
returns-in_err-joint g c = exit at_the_end (play_jointly c.args.inputs.now) _ _ c.from_residual-in_err-joint.result _ c.from_residual-in_err-joint.ensures.1 (wanting at_the_end (play_jointly c.args.inputs.now) _)

pub write_players-requires : goal.write_players-requires
write_players-requires g c =
    let i = c.args.inputs.now in
    all_reported c.manifest.result.now c.setup.result.now c.setup-2.result.now c.deref.result.now (rw (c.setup.ensures, c.manifest.ensures) (all_settled i c.fit.result _ c.in_ok-fit.was c.fit.ensures).1.setup) (c.setup-2.ensures ∙ sym c.setup.ensures)
    (subst (All (IsWholeSession c.manifest.result.now)) (sym c.deref.ensures.value) c.in_ok-joint.ensures.whole)

pub returns-in_err-write_players : goal.returns-in_err-write_players
returns-in_err-write_players g c =
    let i = c.args.inputs.now in
    let network : slice_get i.networks 0 ≡ Some (network_of c.in-Some.network.now) = some_there _ _ _ _ c.in-Some.is c.network.ensures in
    let fits = all_settled i c.fit.result _ c.in_ok-fit.was c.fit.ensures in
    let kinds = kinds_are i c.rules.result.now c.in_ok-rules.rules.items c.rules.ensures.value c.in_ok-rules.ensures.kinds in
    let j = joint_of c.manifest.result.now c.in-Some.network.now.trace c.setup.result.now (map kind_of c.in_ok-rules.rules.items) in
    let case = case_is i c.in-Some.network.now.trace c.in-Some.network.now.trace c.manifest.result.now c.setup.result.now c.in_ok-rules.rules.items kinds c.manifest.ensures refl c.setup.ensures in
    let sessions = subst (AreSessions j) (sym c.deref.ensures.value) c.in_ok-joint.ensures.sessions in
    let text = texts_are i c.in-Some.network.now.trace j c.deref.result.now c.setup-2.result.now case c.setup-2.ensures sessions in
    exit at_the_end (play_jointly i) _ _ c.from_residual-in_err-write_players.result _ c.from_residual-in_err-write_players.ensures.1
    (put_failed at_the_end (play_jointly i) (printed (joint_text (joint_on i c.in-Some.network.now.trace))) _ _ c.write_players.result _ (played_jointly i _ network fits.0) tt c.in_err-write_players.was
    (puts_as _ _ _ _ _ text (c.write_players.ensures (joint_session j) (are_of j c.deref.result.now sessions))))

pub returns : goal.returns
returns g c =
    let i = c.args.inputs.now in
    let network : slice_get i.networks 0 ≡ Some (network_of c.in-Some.network.now) = some_there _ _ _ _ c.in-Some.is c.network.ensures in
    let fits = all_settled i c.fit.result _ c.in_ok-fit.was c.fit.ensures in
    let kinds = kinds_are i c.rules.result.now c.in_ok-rules.rules.items c.rules.ensures.value c.in_ok-rules.ensures.kinds in
    let j = joint_of c.manifest.result.now c.in-Some.network.now.trace c.setup.result.now (map kind_of c.in_ok-rules.rules.items) in
    let case = case_is i c.in-Some.network.now.trace c.in-Some.network.now.trace c.manifest.result.now c.setup.result.now c.in_ok-rules.rules.items kinds c.manifest.ensures refl c.setup.ensures in
    let sessions = subst (AreSessions j) (sym c.deref.ensures.value) c.in_ok-joint.ensures.sessions in
    let text = texts_are i c.in-Some.network.now.trace j c.deref.result.now c.setup-2.result.now case c.setup-2.ensures sessions in
    put_done at_the_end (play_jointly i) (joint_text (joint_on i c.in-Some.network.now.trace)) _ _ c.write_players.result _ (played_jointly i _ network fits.0) c.in_ok-write_players.was
    (puts_as _ _ _ _ _ text (c.write_players.ensures (joint_session j) (are_of j c.deref.result.now sessions)))
