use Rattle.std.proofs.Common.{◌-◌, ◌≤◌, length}
use Rattle.frontier_planner.specs.Climbing.{IsLessBefore, IsWorthAt}
use Rattle.frontier_planner.proofs.climb.place_between.Given as goal

abbrev pub invariant-loop-low : goal.invariant-loop-low
invariant-loop-low l = record {
  order : l.low ≤ l.high;
  inside : l.high ≤ length l.chain;
  before : IsLessBefore l.chain l.low l.value;
  here : IsWorthAt l.chain l.high l.value;
}

abbrev pub decreases-loop-low : goal.decreases-loop-low
decreases-loop-low l = l.high - l.low
