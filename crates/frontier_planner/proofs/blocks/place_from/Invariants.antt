use Rattle.frontier_planner.specs.Blocks.{NoneBefore}
use Rattle.frontier_planner.proofs.blocks.place_from.Given as goal

abbrev pub invariant-loop-place : goal.invariant-loop-place
invariant-loop-place l = NoneBefore l.chain l.l l.place
