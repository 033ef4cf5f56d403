use Rattle.std.proofs.Common.{◌<◌, length, get_or, arith}
use Rattle.std.proofs.lemmas.List.{get_or_default}
use Rattle.shared_link.specs.Calm.{Glides}
use Rattle.shared_link.proofs.Loops.{below_next}
use Rattle.shared_link.proofs.calm.glide_all.Goals as goal

pub loop-body-preserved : goal.loop-body-preserved
loop-body-preserved c =
    let inside = c.loop-body-test.true in
    let count = c.loop-body.invariant.count in
    let here : c.loop-body.body-index < length c.loop-body.bodies = omega (arith, inside, count) in
    let body = get_or c.loop-body.bodies c.loop-body.body-index c.body-item.result in
    below_next (Glides c.args.lane.now.stage.course.now c.args.lane.now.takers c.args.until) c.args.bodies.now c.loop-body.bodies c.loop-body.body-index body c.glide.new.body
    c.loop-body.invariant here (get_or_default c.loop-body.bodies c.loop-body.body-index c.body-item.result body here) c.glide.ensures
