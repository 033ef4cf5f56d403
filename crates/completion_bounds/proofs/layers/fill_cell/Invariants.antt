use Rattle.std.proofs.Common.{◌≡◌, ◌⊎◌, ℕ, ◌+◌, ◌-◌, ◌*◌, ◌<◌, ◌≤◌, length, pos, ◌+ℤ◌, slice_index_or}
use Rattle.completion_bounds.specs.Gain.{greatest_to}
use Rattle.completion_bounds.proofs.layers.fill_cell.Given as goal

abbrev pub invariant-loop-kind : goal.invariant-loop-kind
invariant-loop-kind l = record {
  count : length l.layer ≡ length l.initial.layer;
  kept : (x : ℕ) → (x < l.cell * l.kinds) ⊎ (l.cell * l.kinds + l.kinds ≤ x) → slice_index_or l.layer x (pos 0) ≡ slice_index_or l.initial.layer x (pos 0);
  put : (q : ℕ) → q < l.kind → slice_index_or l.layer (l.cell * l.kinds + q) (pos 0)
      ≡ greatest_to (λ r. slice_index_or l.own (q * length l.gains + r) (pos 0) +ℤ slice_index_or l.gains r (pos 0)) (length l.gains - 1);
}
