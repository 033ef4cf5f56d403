use Rattle.std.proofs.Common.{◌-◌, ◌≤◌, length}
use Rattle.frontier_planner.specs.Climbing.{IsLessBefore}
use Rattle.frontier_planner.proofs.climb.place_of_value.Given as goal

abbrev pub invariant-loop-step : goal.invariant-loop-step
invariant-loop-step l = record {
  bound : l.low ≤ length l.chain;
  some : 1 ≤ l.step;
  small : l.step ≤ 2000000;
  before : IsLessBefore l.chain l.low l.value;
}

abbrev pub decreases-loop-step : goal.decreases-loop-step
decreases-loop-step l = length l.chain - l.low
