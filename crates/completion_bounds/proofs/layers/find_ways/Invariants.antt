use Rattle.std.proofs.Common.{◌≡◌, ℕ, ◌<◌, length, slice_index_or}
use Rattle.lab_model.specs.Film.{rungs_of}
use Rattle.labels.specs.Labels.{came_at}
use Rattle.completion_bounds.specs.Table.{IsWay, cells_of, no_way, request_after}
use Rattle.completion_bounds.specs.declared.cells.Way.{Way}
use Rattle.completion_bounds.proofs.layers.find_ways.Given as goal

abbrev pub invariant-loop-rung : goal.invariant-loop-rung
invariant-loop-rung l = record {
  count : length l.ways ≡ rungs_of l.scene.film;
  each : (r : ℕ) → r < l.rung → IsWay l.scene l.grid l.segment (came_at l.scene (request_after l.scene l.grid l.segment l.steps) l.segment r) (slice_index_or l.ways r no_way);
  cells : (r : ℕ) (w : Way) → r < l.rung → (slice_index_or l.ways r w).cell < cells_of l.grid;
}
