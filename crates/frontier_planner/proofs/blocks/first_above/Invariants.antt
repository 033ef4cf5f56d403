use Rattle.frontier_planner.specs.Blocks.{NoneBefore}
use Rattle.frontier_planner.proofs.blocks.first_above.Given as goal

abbrev pub invariant-loop-level : goal.invariant-loop-level
invariant-loop-level l = NoneBefore l.chain l.l l.from
