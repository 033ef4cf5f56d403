use Rattle.std.proofs.Common.{◌-◌, ◌<◌, ◌≤◌, length}
use Rattle.frontier_planner.proofs.grow.end_of_run.Given as goal

abbrev pub invariant-loop-to : goal.invariant-loop-to
invariant-loop-to l = (l.from < l.to) × (l.to ≤ length l.candidates)

abbrev pub decreases-loop-to : goal.decreases-loop-to
decreases-loop-to l = length l.candidates - l.to
