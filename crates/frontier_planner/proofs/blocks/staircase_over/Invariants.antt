use Rattle.frontier_planner.specs.Blocks.{IsOver}
use Rattle.frontier_planner.specs.Staircase.{IsRising}
use Rattle.frontier_planner.proofs.blocks.staircase_over.Given as goal

abbrev pub invariant-loop-place : goal.invariant-loop-place
invariant-loop-place l = record {
  rising : IsRising l.staircase.steps.items;
  over : IsOver l.chain l.from l.place l.staircase.steps.items;
}
