use Rattle.std.proofs.Common.{◌-◌, length}
use Rattle.frontier_planner.proofs.Passed.{Built}
use Rattle.frontier_planner.proofs.blocks.level_of.Given as goal

abbrev pub invariant-loop-begin : goal.invariant-loop-begin
invariant-loop-begin l = Built l.chain l.size l.blocks.items l.begin

abbrev pub decreases-loop-begin : goal.decreases-loop-begin
decreases-loop-begin l = length l.chain - l.begin
