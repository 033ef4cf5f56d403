use Rattle.std.proofs.Common.{◌≡◌, ℕ, ◌+◌, ◌-◌, ◌<◌, length}
use Rattle.lab_model.specs.Film.{rungs_of, segments_of}
use Rattle.completion_bounds.specs.Grid.{row_steps}
use Rattle.completion_bounds.specs.Table.{IsLayerBelow}
use Rattle.completion_bounds.proofs.layers.layer_before.Given as goal

abbrev pub invariant-loop-sum : goal.invariant-loop-sum
invariant-loop-sum l = record {
  ways : length l.ways.items ≡ rungs_of l.scene.film;
  gains : length l.gains.items ≡ rungs_of l.scene.film;
  layer : IsLayerBelow l.scene l.grid (segments_of l.scene.film - l.segment) l.sum l.layer.items;
}

abbrev pub invariant-loop-row : goal.invariant-loop-row
invariant-loop-row l = record {
  ways : length l.ways.items ≡ rungs_of l.scene.film;
  gains : length l.gains.items ≡ rungs_of l.scene.film;
  short : (k : ℕ) → k < l.row → row_steps l.grid k + l.grid.columns < l.from;
  layer : IsLayerBelow l.scene l.grid (segments_of l.scene.film - l.segment) l.from l.layer.items;
}
