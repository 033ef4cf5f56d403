use Rattle.std.specs.List.{All}
use Rattle.near_best.specs.Kept.{IsKept}
use Rattle.near_best.proofs.list.keep_behind.Given as goal

abbrev pub invariant-loop-rung : goal.invariant-loop-rung
invariant-loop-rung l = All (IsKept l.scene l.segment) l.labels.items
