use Rattle.std.proofs.Common.{◌≡◌, ◌-◌, ◌≤◌}
use Rattle.labels.specs.Labels.{start_label}
use Rattle.completion_bounds.specs.Bound.{most_of}
use Rattle.completion_bounds.specs.Gain.{greatest_to}
use Rattle.completion_bounds.proofs.table.Table.bound.Given as goal

abbrev pub invariant-loop-rung : goal.invariant-loop-rung
invariant-loop-rung l = record {
  some : 1 ≤ l.rung;
  best : l.best ≡ greatest_to (λ q. most_of l.self.scene l.self.grid 0 q (start_label l.self.scene q)) (l.rung - 1);
}
