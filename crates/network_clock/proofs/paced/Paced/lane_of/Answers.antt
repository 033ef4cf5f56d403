use Rattle.network_clock.proofs.Lanes.{lane_paced}
use Rattle.network_clock.proofs.paced.Paced.lane_of.Goals as goal

pub invariant_of-result : goal.invariant_of-result
invariant_of-result c = rw (c.in_ok-lane_of.ensures, c.periods.ensures.value) (lane_paced c.args.takers c.args.trace.now c.requires.takers c.periods.ensures.trace)
