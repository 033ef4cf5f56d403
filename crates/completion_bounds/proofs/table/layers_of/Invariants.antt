use Rattle.std.proofs.Common.{◌≤◌}
use Rattle.completion_bounds.specs.Table.{AreLayers}
use Rattle.completion_bounds.proofs.table.layers_of.Given as goal

abbrev pub invariant-loop-left : goal.invariant-loop-left
invariant-loop-left l = record {
  some : 1 ≤ l.left;
  layers : AreLayers l.scene l.grid l.left l.layers.items;
}
