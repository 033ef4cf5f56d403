use Rattle.std.proofs.Common.{◌≡◌, ◌++◌, map}
use Rattle.frontier_planner.specs.Linked.{step_reached}
use Rattle.frontier_planner.proofs.chains.add_reached.Given as goal

abbrev pub invariant-loop-step : goal.invariant-loop-step
invariant-loop-step l = l.reached.items ≡ l.initial.reached.items ++ map (step_reached l.rung) l.yielded
