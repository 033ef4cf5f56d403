use Rattle.std.proofs.Common.{◌≡◌, ℕ, ◌*◌, ◌/◌, ◌<◌, length, pos, ◌-ℤ◌, slice_index_or}
use Rattle.completion_bounds.specs.Grid.{row_delay}
use Rattle.completion_bounds.proofs.layers.last_layer.Given as goal

abbrev pub invariant-loop-place : goal.invariant-loop-place
invariant-loop-place l = record {
  count : length l.layer.items ≡ l.place;
  each : (x : ℕ) → x < l.place → slice_index_or l.layer.items x (pos 0) ≡ pos 0 -ℤ pos (l.scene.setup.weights.stall * row_delay l.grid (x / l.per_row));
}
