use Rattle.std.proofs.Common.{◌∙◌, ap, length, arith}
use Rattle.std.specs.List.{flat_map}
use Rattle.std.proofs.lemmas.List.{take_all}
use Rattle.labels.specs.Grown.{grown}
use Rattle.frontier_planner.specs.Layers.{names_read}
use Rattle.labels.specs.Read.{no_label}
use Rattle.frontier_planner.proofs.Naming.{chain_few, chain_is, label_pushed, label_there, rung_inside}
use Rattle.frontier_planner.proofs.names.names.Goals as goal

pub index-requires : goal.index-requires
index-requires c =
    let d = c.args.brief.now.grid in
    let g = c.args.brief.now.scene in
    let h = c.requires.layers in
    let layers = c.args.layers.now in
    let next = c.requires.segment in
    rung_inside d g layers h c.args.segment c.args.rung c.index-layers-segment.result (omega (arith, next)) c.requires.rung

pub index-requires-2 : goal.index-requires-2
index-requires-2 c =
    let d = c.args.brief.now.grid in
    let g = c.args.brief.now.scene in
    let h = c.requires.layers in
    let layers = c.args.layers.now in
    let next = c.requires.segment in
    rung_inside d g layers h c.args.segment c.args.rung c.index-layers-segment-2.result (omega (arith, next)) c.requires.rung

pub room_for_names-requires : goal.room_for_names-requires
room_for_names-requires c =
    let d = c.args.brief.now.grid in
    let g = c.args.brief.now.scene in
    let h = c.requires.layers in
    let layers = c.args.layers.now in
    let next = c.requires.segment in
    let is = c.deref.ensures.value ∙ chain_is d g layers h c.args.segment c.args.rung c.index-layers-segment.result c.index.result.now (omega (arith, next)) c.requires.rung c.index.ensures in
    let few = chain_few d g layers h c.args.segment c.args.rung (omega (arith, next)) c.requires.rung in
    let long = ap length is in
    omega (arith, few, long)

pub name_label-requires-clause-reached : goal.name_label-requires-clause-reached
name_label-requires-clause-reached c =
    let d = c.args.brief.now.grid in
    let g = c.args.brief.now.scene in
    let h = c.requires.layers in
    let layers = c.args.layers.now in
    let next = c.requires.segment in
    let is = c.deref-l-items.ensures.value ∙ chain_is d g layers h c.args.segment c.args.rung c.index-layers-segment-2.result c.index-2.result.now (omega (arith, next)) c.requires.rung c.index-2.ensures in
    label_there d g c.args.segment c.args.rung c.loop-l.l-index no_label c.deref-l-items.result.now is c.requires.rung c.loop-l-test.true

pub loop-l-preserved : goal.loop-l-preserved
loop-l-preserved c =
    let d = c.args.brief.now.grid in
    let g = c.args.brief.now.scene in
    let h = c.requires.layers in
    let layers = c.args.layers.now in
    let next = c.requires.segment in
    let is = c.deref-l-items.ensures.value ∙ chain_is d g layers h c.args.segment c.args.rung c.index-layers-segment-2.result c.index-2.result.now (omega (arith, next)) c.requires.rung c.index-2.ensures in
    label_pushed (λ x. names_read d g c.args.segment (c.args.rung, x)) (grown d g c.args.segment c.args.rung) c.deref-l-items.result.now c.loop-l.l-index no_label c.loop-l.names.items c.name_label.new.names.items
    is c.loop-l-test.true c.loop-l.invariant c.in_ok-name_label.ensures

pub returns : goal.returns
returns c =
    let d = c.args.brief.now.grid in
    let g = c.args.brief.now.scene in
    let h = c.requires.layers in
    let layers = c.args.layers.now in
    let next = c.requires.segment in
    let is = c.deref-l-items.ensures.value ∙ chain_is d g layers h c.args.segment c.args.rung c.index-layers-segment-2.result c.index-2.result.now (omega (arith, next)) c.requires.rung c.index-2.ensures in
    let long = ap length is in
    let late = c.loop-l-test.false in
    c.loop-l.invariant ∙ ap (flat_map (λ l. names_read d g c.args.segment (c.args.rung, l))) (take_all c.loop-l.l-index (grown d g c.args.segment c.args.rung) (omega (arith, long, late)))
