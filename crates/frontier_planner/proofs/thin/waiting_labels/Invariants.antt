use Rattle.std.proofs.Common.{◌≡◌, ℕ, ◌<◌, get_or, length, map}
use Rattle.frontier_planner.specs.Linked.{pair_of}
use Rattle.frontier_planner.specs.Thinned.{no_followed, waiting_at}
use Rattle.frontier_planner.proofs.thin.waiting_labels.Given as goal

abbrev pub invariant-loop-old : goal.invariant-loop-old
invariant-loop-old l = record {
  count : length l.waits.items ≡ l.old-index;
  each : (k : ℕ) → k < l.old-index → get_or l.waits.items k no_followed ≡ waiting_at l.brief.scene l.segment (map pair_of l.before) k;
}
