use Rattle.std.proofs.Common.{◌≡◌, length}
use Rattle.std.specs.List.{All}
use Rattle.near_best.specs.Kept.{IsKept}
use Rattle.near_best.proofs.list.first_labels.Given as goal

abbrev pub invariant-loop-rung : goal.invariant-loop-rung
invariant-loop-rung l = record {
  count : length l.labels.items ≡ l.rung;
  each : All (IsKept l.scene 0) l.labels.items;
}
