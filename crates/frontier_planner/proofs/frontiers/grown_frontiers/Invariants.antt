use Rattle.std.proofs.Common.{◌≡◌, ◌+◌, ◌*◌}
use Rattle.lab_model.specs.Film.{rungs_of}
use Rattle.label_arena.specs.Chains.{node_count}
use Rattle.labels.specs.Grown.{grown}
use Rattle.labels.specs.Read.{labels_before}
use Rattle.frontier_planner.specs.Linked.{HoldsBelow}
use Rattle.frontier_planner.proofs.frontiers.grown_frontiers.Given as goal

abbrev pub invariant-loop-segment : goal.invariant-loop-segment
invariant-loop-segment l = record {
  holds : HoldsBelow l.brief.grid l.brief.scene l.arena (l.segment * rungs_of l.brief.scene.film);
  left : l.left + labels_before l.brief.scene (grown l.brief.grid l.brief.scene) l.segment ≡ l.fn.budget;
  count : node_count l.arena + l.left ≡ l.fn.budget;
}
