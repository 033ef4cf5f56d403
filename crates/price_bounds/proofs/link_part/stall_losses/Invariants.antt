use Rattle.std.proofs.Common.{◌≡◌, ◌<◌, ℕ, length}
use Rattle.std.specs.Prelude.{pos, ◌-ℤ◌, slice_index, slice_index_or}
use Rattle.price_bounds.specs.Tables.{stall_cost}
use Rattle.price_bounds.proofs.link_part.stall_losses.Given as goal

abbrev pub invariant-loop-cell : goal.invariant-loop-cell
invariant-loop-cell l = record {
  count : length l.losses.items ≡ l.cell;
  each : (c : ℕ) → c < l.cell → slice_index_or l.losses.items c (pos 0) ≡ pos 0 -ℤ pos (stall_cost l.scene (slice_index l.edges 0) c);
}
