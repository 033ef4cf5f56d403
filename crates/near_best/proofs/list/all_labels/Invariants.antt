use Rattle.std.proofs.Common.{◌≡◌, ◌+◌, ◌-◌, length}
use Rattle.std.specs.List.{All}
use Rattle.near_best.specs.Kept.{AreOnRungs, IsKept}
use Rattle.near_best.proofs.list.all_labels.Given as goal

abbrev pub invariant-loop-segment : goal.invariant-loop-segment
invariant-loop-segment l = record {
  count : length l.layers.items + 1 ≡ l.segment;
  rungs : AreOnRungs l.scene l.layers.items;
  last : All (IsKept l.scene (l.segment - 1)) l.last.items;
}
