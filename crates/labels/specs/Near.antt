-- What the label calls need of a label.
use Rattle.std.specs.Prelude.{ℕ, ◌≤◌}
use Rattle.lab_model.specs.declared.label.Label.{Label}
use Rattle.lab_model.specs.Number.{IsNear}

-- how far a label may lie, in milliseconds
abbrev pub farthest_ms : ℕ
farthest_ms = 1000000000000000

-- how large the value of a label may be, in thousandths of a point
abbrev pub largest_value : ℕ
largest_value = 1000000000000000000

-- a label that may be followed
pub record CanFollow (l : Label) : Type 0 where
  pub time : l.t ≤ farthest_ms
  pub delay : l.p ≤ farthest_ms
  pub value : IsNear largest_value l.v
