use Rattle.std.proofs.Common.{◌-◌, length}
use Rattle.std.specs.List.Sorted.{IsPermutation}
use Rattle.frontier_planner.proofs.grow.sort_runs.Given as goal

abbrev pub invariant-loop-from : goal.invariant-loop-from
invariant-loop-from l = IsPermutation l.initial.candidates l.candidates

abbrev pub decreases-loop-from : goal.decreases-loop-from
decreases-loop-from l = length l.initial.candidates - l.from
