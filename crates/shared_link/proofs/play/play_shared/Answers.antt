use Rattle.std.proofs.Common.{◌∙◌, map, sym, ap, subst}
use Rattle.std.proofs.lemmas.List.{length-map}
use Rattle.std.proofs.lemmas.Result.{IfOk-weaker}
use Rattle.network_clock.specs.Shared.{Shared}
use Rattle.shared_link.specs.Joint.{IsJoint, JointCase, joint_of}
use Rattle.shared_link.specs.Table.{AreSessions}
use Rattle.shared_link.proofs.Whole.{all_alone, all_whole, scene_joint, scene_same}
use Rattle.shared_link.proofs.play.play_shared.Goals as goal

pub play_on-requires-clause-joint : goal.play_on-requires-clause-joint
play_on-requires-clause-joint g c =
    let kind = g.T.Rule.kind in
    let value = c.on_demand-scene.ensures.value in
    let trace = c.clock.ensures.value ∙ ap (λ (s : Shared). s.periods) c.in_ok-link.ensures.link in
    let same = scene_same kind c.args.m.now c.args.trace.now c.clock.result.now c.args.set.now c.args.rules.items c.on_demand-scene.result value trace in
    let is = scene_joint kind c.args.m.now c.args.trace.now c.clock.result.now c.args.set.now c.args.rules.items c.on_demand-scene.result value trace
    c.on_demand-scene.ensures.task c.requires.setup c.requires.keeps c.requires.players c.requires.rules in
    subst IsJoint (sym same) is

pub returns-clause-whole : goal.returns-clause-whole
returns-clause-whole g c =
    let kind = g.T.Rule.kind in
    let value = c.on_demand-scene.ensures.value in
    let trace = c.clock.ensures.value ∙ ap (λ (s : Shared). s.periods) c.in_ok-link.ensures.link in
    let same = scene_same kind c.args.m.now c.args.trace.now c.clock.result.now c.args.set.now c.args.rules.items c.on_demand-scene.result value trace in
    let is = scene_joint kind c.args.m.now c.args.trace.now c.clock.result.now c.args.set.now c.args.rules.items c.on_demand-scene.result value trace
    c.on_demand-scene.ensures.task c.requires.setup c.requires.keeps c.requires.players c.requires.rules in
    let j = joint_of c.args.m.now c.args.trace.now c.args.set.now (map kind c.args.rules.items) in
    IfOk-weaker c.play_on.result _ _ (λ joint are. all_whole j is joint.sessions.items (subst (λ (i : JointCase). AreSessions i joint.sessions.items) same are)) c.play_on.ensures

pub returns-clause-alone : goal.returns-clause-alone
returns-clause-alone g c = λ one.
    let kind = g.T.Rule.kind in
    let value = c.on_demand-scene.ensures.value in
    let trace = c.clock.ensures.value ∙ ap (λ (s : Shared). s.periods) c.in_ok-link.ensures.link in
    let same = scene_same kind c.args.m.now c.args.trace.now c.clock.result.now c.args.set.now c.args.rules.items c.on_demand-scene.result value trace in
    let is = scene_joint kind c.args.m.now c.args.trace.now c.clock.result.now c.args.set.now c.args.rules.items c.on_demand-scene.result value trace
    c.on_demand-scene.ensures.task c.requires.setup c.requires.keeps c.requires.players c.requires.rules in
    let j = joint_of c.args.m.now c.args.trace.now c.args.set.now (map kind c.args.rules.items) in
    IfOk-weaker c.play_on.result _ _
    (λ joint are. all_alone j is joint.sessions.items (subst (λ (i : JointCase). AreSessions i joint.sessions.items) same are) (length-map c.args.rules.items kind ∙ one)) c.play_on.ensures
