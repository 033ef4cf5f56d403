use Rattle.std.proofs.Common.{◌≡◌, [], pos}
use Rattle.std.specs.Prelude.{◌≤ℤ◌}
use Rattle.lab_model.specs.Number.{IsNear}
use Rattle.price_bounds.specs.Bound.{bound_on}
use Rattle.price_bounds.specs.Tables.{IsBestBelow, most_bound, most_plain_bound}
use Rattle.price_bounds.proofs.bound.bound_of_windows.Given as goal

abbrev pub invariant-loop-rung : goal.invariant-loop-rung
invariant-loop-rung l = record {
  best : IsBestBelow l.rung (bound_on l.scene l.windows) l.best;
  near : IsNear most_bound l.best;
  plain : l.windows ≡ [] → l.best ≤ℤ pos most_plain_bound;
}
