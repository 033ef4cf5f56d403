use Rattle.std.proofs.Common.{◌≡◌, map, take}
use Rattle.labels.specs.Labels.{came_at}
use Rattle.frontier_planner.specs.Parents.{follower}
use Rattle.frontier_planner.proofs.grow.successors.Given as goal

abbrev pub invariant-loop-old : goal.invariant-loop-old
invariant-loop-old l = record {
  made : l.made.items ≡ map (follower l.brief.grid l.brief.scene l.segment l.rung) (take l.old-index l.followed);
  known : l.known.done ≡ came_at l.brief.scene l.known.request l.segment l.rung;
}
