-- Chains along which times, delays and values rise together, and where a value is found in them.
use Rattle.std.specs.Prelude.{ℕ, ◌-◌, ◌≤◌, ◌<◌, ℤ, ◌≤ℤ◌, ◌<ℤ◌, List, length, slice_index_or}
use Rattle.std.specs.List.{AllPairs}
use Rattle.lab_model.specs.declared.label.Label.{Label}
use Rattle.labels.specs.Read.{no_label}

-- the second has no less time, delay and value
abbrev pub ClimbsTo : Label → Label → Type 0
ClimbsTo a b = (a.t ≤ b.t) × (a.p ≤ b.p) × (a.v ≤ℤ b.v)

-- along the chain neither times nor delays nor values fall
abbrev pub IsClimbing : List Label → Type 0
IsClimbing chain = AllPairs ClimbsTo chain

-- the label before a place has less than a value
abbrev pub IsLessBefore : List Label → ℕ → ℤ → Type 0
IsLessBefore chain place value = 0 < place → (slice_index_or chain (place - 1) no_label).v <ℤ value

-- the label at a place has the value or more
abbrev pub IsWorthAt : List Label → ℕ → ℤ → Type 0
IsWorthAt chain place value = place < length chain → value ≤ℤ (slice_index_or chain place no_label).v

-- at a place the chain comes to a value
pub record Reaches (chain : List Label) (place : ℕ) (value : ℤ) : Type 0 where
  pub bound : place ≤ length chain
  pub before : IsLessBefore chain place value
  pub here : IsWorthAt chain place value
