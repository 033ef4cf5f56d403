use Rattle.std.proofs.Common.{◌≡◌, ◌-◌, ◌≤◌, length}
use Rattle.lab_model.specs.Film.{rungs_of, segments_of}
use Rattle.completion_bounds.specs.Table.{IsLayerAt}
use Rattle.completion_bounds.proofs.layers.fill_steps.Given as goal

abbrev pub invariant-loop-row : goal.invariant-loop-row
invariant-loop-row l = record {
  from : l.first ≤ l.row;
  gains : length l.gains ≡ rungs_of l.scene.film;
  layer : IsLayerAt l.scene l.grid (segments_of l.scene.film - l.segment) l.steps l.row l.layer;
}
