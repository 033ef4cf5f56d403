use Rattle.std.proofs.Common.{◌≡◌, ◌+◌, ◌*◌, length}
use Rattle.lab_model.specs.Film.{rungs_of}
use Rattle.label_arena.specs.Chains.{node_count}
use Rattle.labels.specs.Frontier.{by_rung}
use Rattle.labels.specs.Grown.{grown}
use Rattle.frontier_planner.specs.Linked.{AreBefore, HoldsBelow}
use Rattle.frontier_planner.proofs.frontiers.grow_segment.Given as goal

abbrev pub invariant-loop-rung : goal.invariant-loop-rung
invariant-loop-rung l = record {
  holds : HoldsBelow l.brief.grid l.brief.scene l.arena (l.segment * rungs_of l.brief.scene.film + l.rung);
  before : AreBefore l.brief.grid l.brief.scene l.arena l.segment l.before.items;
  rest : l.rest + length (by_rung l.rung (grown l.brief.grid l.brief.scene l.segment)) ≡ l.left;
  count : node_count l.arena + l.rest ≡ node_count l.initial.arena + l.left;
}
