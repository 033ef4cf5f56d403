-- The laws of completion bounds.
use Rattle.std.specs.Prelude.{◌≡◌, ℕ, ◌+◌, ◌-◌, ◌≤◌, ◌<◌, List, [], ◌∷◌, ℤ, ◌+ℤ◌, ◌≤ℤ◌, slice_index}
use Rattle.lab_model.specs.declared.label.Label.{Label}
use Rattle.lab_model.specs.Film.{segments_of}
use Rattle.player_core.specs.Scene.{IsTask, Task}
use Rattle.labels.specs.Best.{task_value}
use Rattle.labels.specs.Labels.{AreRungs, end_value, label_at, next_label}
use Rattle.completion_bounds.specs.Bound.{IsHopeless, table_bound}
use Rattle.completion_bounds.specs.Gain.{column_of, gain}
use Rattle.completion_bounds.specs.Grid.{GridParts, IsTableGrid, delay_row}
use Rattle.completion_bounds.specs.Tight.{tight}

-- the label that rungs lead to which go on from a label of a segment on a rung
abbrev pub label_after : Task → ℕ → ℕ → Label → List ℕ → Label
label_after g segment q l [] = l
label_after g segment q l (r ∷ rs) = label_after g (segment + 1) r (next_label g (segment + 1) q l r) rs

-- a list that goes on from a label ends at no more than its value and the completion bound at the row and column of any label with no later
-- time and no longer delay
abbrev pub CompletionsAreBounded : Type 0
CompletionsAreBounded =
    (g : Task) → IsTask g → (d : GridParts) → IsTableGrid d → (i q : ℕ) → i < segments_of g.film
    → (early l : Label) → early.t ≤ l.t → early.p ≤ l.p → (rungs : List ℕ) → AreRungs g (segments_of g.film - (i + 1)) rungs
    → end_value g (label_after g i q l rungs) ≤ℤ (l.v +ℤ gain g d i q (delay_row d early.p) (column_of g d i early))

-- a list has no greater value than one under which a label along it is hopeless
abbrev pub HopelessEndBelow : Type 0
HopelessEndBelow =
    (g : Task) → IsTask g → (d : GridParts) → IsTableGrid d → (rungs : List ℕ) → AreRungs g (segments_of g.film) rungs
    → (i : ℕ) → i < segments_of g.film → (most : ℤ) → IsHopeless g d i (slice_index rungs i) (label_at g rungs i) most
    → task_value g rungs ≤ℤ most

-- no list has a value above the table's bound
abbrev pub TableBounds : Type 0
TableBounds =
    (g : Task) → IsTask g → (d : GridParts) → IsTableGrid d → (rungs : List ℕ) → AreRungs g (segments_of g.film) rungs
    → task_value g rungs ≤ℤ table_bound g d

-- the tight setup is within the limits
abbrev pub TightFits : Type 0
TightFits = (g : Task) → IsTask g → IsTask (tight g)

-- no list's labels change by the tight setup
abbrev pub TightLabels : Type 0
TightLabels =
    (g : Task) → IsTask g → (rungs : List ℕ) → AreRungs g (segments_of g.film) rungs
    → (i : ℕ) → i < segments_of g.film → label_at (tight g) rungs i ≡ label_at g rungs i

-- and neither does its value
abbrev pub TightValues : Type 0
TightValues =
    (g : Task) → IsTask g → (rungs : List ℕ) → AreRungs g (segments_of g.film) rungs → task_value (tight g) rungs ≡ task_value g rungs
