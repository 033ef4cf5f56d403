use Rattle.std.proofs.Common.{ℕ, ◌<◌, ◌≤◌}
use Rattle.lab_model.specs.Weighing.{utility_of}
use Rattle.frontier_planner.proofs.thin.dearest_change.Given as goal

abbrev pub invariant-loop-rung : goal.invariant-loop-rung
invariant-loop-rung l = record {
  most : (r : ℕ) → r < l.rung → utility_of l.weights l.segment r ≤ l.top;
  limit : l.top ≤ 1000000;
}
