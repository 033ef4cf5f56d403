use Rattle.std.proofs.Common.{◌∙◌, ◌<◌, [], length, ap, arith}
use Rattle.lab_model.specs.Film.{rungs_of, segments_of}
use Rattle.labels.specs.Grown.{grown}
use Rattle.labels.specs.Labels.{start_label}
use Rattle.labels.specs.Read.{place_above}
use Rattle.frontier_planner.proofs.Naming.{chain_few, chain_is, rung_inside, start_one}
use Rattle.labels.proofs.Counted.{rung_pushed}
use Rattle.frontier_planner.proofs.names.starts.Goals as goal

pub index-requires : goal.index-requires
index-requires c =
    let d = c.args.brief.now.grid in
    let g = c.args.brief.now.scene in
    let h = c.requires in
    let layers = c.args.layers.now in
    let some = h.case.task.film.segments.0 in
    rung_inside d g layers h 0 c.loop-rung.rung c.index-layers-0.result (omega (arith, some)) (omega arith)

pub place_from-requires-clause-few : goal.place_from-requires-clause-few
place_from-requires-clause-few c =
    let d = c.args.brief.now.grid in
    let g = c.args.brief.now.scene in
    let h = c.requires in
    let layers = c.args.layers.now in
    let some = h.case.task.film.segments.0 in
    let first : 0 < segments_of c.args.brief.now.scene.film = omega (arith, some) in
    let rung : c.loop-rung.rung < rungs_of c.args.brief.now.scene.film = omega arith in
    let is = c.deref.ensures.value ∙ chain_is d g layers h 0 c.loop-rung.rung c.index-layers-0.result c.index.result.now first rung c.index.ensures in
    let few = chain_few d g layers h 0 c.loop-rung.rung first rung in
    let long = ap length is in
    omega (arith, few, long)

pub loop-rung-preserved : goal.loop-rung-preserved
loop-rung-preserved c =
    let d = c.args.brief.now.grid in
    let g = c.args.brief.now.scene in
    let h = c.requires in
    let layers = c.args.layers.now in
    let some = h.case.task.film.segments.0 in
    let first : 0 < segments_of c.args.brief.now.scene.film = omega (arith, some) in
    let rung : c.loop-rung.rung < rungs_of c.args.brief.now.scene.film = omega arith in
    let is = c.deref.ensures.value ∙ chain_is d g layers h 0 c.loop-rung.rung c.index-layers-0.result c.index.result.now first rung c.index.ensures in
    c.in_ok-push.ensures.items
    ∙ rung_pushed [] c.loop-rung.starts.items (λ q. place_above (grown d g 0 q) (start_label g q)) c.loop-rung.rung c.place_from.result c.loop-rung.invariant
    (start_one d g c.loop-rung.rung c.place_from.result c.deref.result.now c.start-start.result c.place_from.ensures is c.start-start.ensures)
