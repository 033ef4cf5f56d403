use Rattle.frontier_planner.proofs.Climbing.{climbs_all, climbs_more}
use Rattle.frontier_planner.proofs.climb.climbs.Goals as goal

pub loop-place-preserved : goal.loop-place-preserved
loop-place-preserved c = climbs_more c.args.chain.now c.loop-place.place c.loop-place.auto.place c.loop-place.invariant (c.climbs_to.ensures c.if-not-climbs_to.false)

pub returns : goal.returns
returns c = λ yes. climbs_all c.args.chain.now c.loop-place.place c.loop-place-test.false c.loop-place.invariant
