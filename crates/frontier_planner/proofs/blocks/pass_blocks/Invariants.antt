use Rattle.std.proofs.Common.{◌-◌, length}
use Rattle.frontier_planner.specs.Blocks.{NoneBefore}
use Rattle.frontier_planner.proofs.blocks.pass_blocks.Given as goal

abbrev pub invariant-loop-place : goal.invariant-loop-place
invariant-loop-place l = NoneBefore l.chain l.l l.place

abbrev pub decreases-loop-place : goal.decreases-loop-place
decreases-loop-place l = length l.chain - l.place
