use Rattle.std.proofs.Common.{◌≡◌, ◌+◌, ◌-◌, ◌≤◌, pos, ◌+ℤ◌, slice_index_or}
use Rattle.completion_bounds.specs.Gain.{greatest_to}
use Rattle.completion_bounds.proofs.layers.best_gain.Given as goal

abbrev pub invariant-loop-rung : goal.invariant-loop-rung
invariant-loop-rung l = record {
  some : 1 ≤ l.rung;
  best : l.best ≡ greatest_to (λ r. slice_index_or l.own (l.from + r) (pos 0) +ℤ slice_index_or l.gains r (pos 0)) (l.rung - 1);
}
