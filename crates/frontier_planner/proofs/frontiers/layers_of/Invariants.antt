use Rattle.std.proofs.Common.{◌≡◌, length}
use Rattle.frontier_planner.specs.Layers.{HoldAll}
use Rattle.frontier_planner.proofs.frontiers.layers_of.Given as goal

abbrev pub invariant-loop-segment : goal.invariant-loop-segment
invariant-loop-segment l = record {
  holds : HoldAll l.brief.grid l.brief.scene l.layers.items;
  count : length l.layers.items ≡ l.segment;
}
