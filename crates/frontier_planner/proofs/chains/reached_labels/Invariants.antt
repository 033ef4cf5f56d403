use Rattle.std.proofs.Common.{◌≡◌, map}
use Rattle.std.specs.List.{Contains}
use Rattle.labels.specs.Frontier.{by_rung}
use Rattle.labels.specs.Grown.{grown}
use Rattle.frontier_planner.specs.declared.chains.Reached.{Reached}
use Rattle.frontier_planner.specs.Linked.{StandsAt, pair_of}
use Rattle.frontier_planner.proofs.chains.reached_labels.Given as goal

abbrev pub invariant-loop-rung : goal.invariant-loop-rung
invariant-loop-rung l = record {
  labels : map pair_of l.reached.items ≡ by_rung l.rung (grown l.brief.grid l.brief.scene l.segment);
  stand : (x : Reached) → Contains l.reached.items x → StandsAt l.brief.scene l.arena l.segment x;
}
