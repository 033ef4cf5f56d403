use Rattle.std.specs.List.{All}
use Rattle.near_best.specs.Kept.{IsKept}
use Rattle.near_best.proofs.list.next_labels.Given as goal

abbrev pub invariant-loop-number : goal.invariant-loop-number
invariant-loop-number l = All (IsKept l.scene l.segment) l.labels.items
