use Rattle.std.proofs.Common.{◌≡◌, map, take, get_or}
use Rattle.std.specs.List.{Contains, best_of}
use Rattle.labels.specs.Read.{ends_higher, no_label}
use Rattle.frontier_planner.specs.Linked.{pair_of}
use Rattle.frontier_planner.proofs.read.best_end.Given as goal

abbrev pub invariant-loop-reached : goal.invariant-loop-reached
invariant-loop-reached l = record {
  best : pair_of l.best ≡ best_of (ends_higher l.brief.scene) (get_or (map pair_of l.last) 0 (0, no_label)) (take l.reached-index (map pair_of l.last));
  there : Contains l.last l.best;
}
