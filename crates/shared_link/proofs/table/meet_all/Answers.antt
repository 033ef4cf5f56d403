use Rattle.std.proofs.Common.{◌<◌, length, get_or, arith}
use Rattle.std.proofs.lemmas.List.{get_or_default}
use Rattle.shared_link.proofs.Loops.{met_next}
use Rattle.shared_link.proofs.table.meet_all.Goals as goal

pub loop-place-preserved : goal.loop-place-preserved
loop-place-preserved g c =
    let h = c.loop-place.invariant in
    let inside = c.loop-place-test.true in
    let bodies = h.bodies in
    let rules = h.count in
    let same = c.requires.count in
    let here : c.loop-place.place < length c.loop-place.bodies = omega (arith, inside, bodies) in
    let there : c.loop-place.place < length c.loop-place.rules = omega (arith, inside, rules, same) in
    let body = get_or c.loop-place.bodies c.loop-place.place c.index-bodies-place.result in
    let rule = get_or c.loop-place.rules c.loop-place.place c.index-rules-place.result in
    met_next g.T.Rule.kind g.T.Rule.stands_for c.args.course.now c.args.bodies.now c.args.rules.now c.loop-place.bodies c.loop-place.rules c.loop-place.place
    body c.meet.new.body rule c.meet.new.rule h here there
    (get_or_default c.loop-place.bodies c.loop-place.place c.index-bodies-place.result body here) (get_or_default c.loop-place.rules c.loop-place.place c.index-rules-place.result rule there) c.in_ok-meet.ensures
