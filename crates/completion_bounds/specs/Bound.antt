-- What completion bounds say of labels and of all lists.
use Rattle.std.specs.Prelude.{ℕ, ℤ, ◌+ℤ◌, ◌≤ℤ◌}
use Rattle.lab_model.specs.declared.label.Label.{Label}
use Rattle.player_core.specs.Scene.{Task}
use Rattle.labels.specs.Labels.{start_label}
use Rattle.completion_bounds.specs.Gain.{label_gain, greatest_on}
use Rattle.completion_bounds.specs.Grid.{GridParts}

-- what the lists through a label of a segment on a rung end at, at most
abbrev pub most_of : Task → GridParts → ℕ → ℕ → Label → ℤ
most_of g d segment q l = l.v +ℤ label_gain g d segment q l

-- a label is hopeless under a value: no list through it ends above
abbrev pub IsHopeless : Task → GridParts → ℕ → ℕ → Label → ℤ → Type 0
IsHopeless g d segment q l most = most_of g d segment q l ≤ℤ most

-- the table's bound: the greatest over the start labels
abbrev pub table_bound : Task → GridParts → ℤ
table_bound g d = greatest_on g (λ q. most_of g d 0 q (start_label g q))
