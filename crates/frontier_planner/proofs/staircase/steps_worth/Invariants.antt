use Rattle.std.proofs.Common.{◌-◌, ◌≤◌, length}
use Rattle.std.specs.Prelude.{◌≤ℤ◌}
use Rattle.std.specs.List.{AllWithin}
use Rattle.frontier_planner.proofs.staircase.steps_worth.Given as goal

abbrev pub invariant-loop-count : goal.invariant-loop-count
invariant-loop-count l = record {
  order : l.from ≤ l.count;
  bound : l.count ≤ length l.steps;
  below : AllWithin (λ s. s.v ≤ℤ l.l.v) l.steps 0 l.count;
}

abbrev pub decreases-loop-count : goal.decreases-loop-count
decreases-loop-count l = length l.steps - l.count
