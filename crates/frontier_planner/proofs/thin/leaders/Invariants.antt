use Rattle.std.proofs.Common.{take}
use Rattle.frontier_planner.proofs.Thinned.{Led}
use Rattle.frontier_planner.proofs.thin.leaders.Given as goal

abbrev pub invariant-loop-reached : goal.invariant-loop-reached
invariant-loop-reached l = Led l.slack (take l.reached-index l.labels) l.kept.items l.staircase.steps.items
