use Rattle.frontier_planner.proofs.Climbing.{ClimbsBelow}
use Rattle.frontier_planner.proofs.climb.climbs.Given as goal

abbrev pub invariant-loop-place : goal.invariant-loop-place
invariant-loop-place l = ClimbsBelow l.chain l.place
