-- Coarse frontiers, which grow step by step; on the grid 1, 1 they are the frontiers.
use Rattle.std.specs.Prelude.{ℕ, zero, suc, List, [], ◌∷◌, map}
use Rattle.lab_model.specs.declared.label.Label.{Label}
use Rattle.lab_model.specs.Film.{rungs_of}
use Rattle.player_core.specs.Scene.{IsTask, Task}
use Rattle.labels.specs.Labels.{next_label, start_label}
use Rattle.labels.specs.Frontier.{by_rung, undominated}
use Rattle.labels.specs.Grid.{IsGrid, Rounding, rounded}

-- the rounded successors, to a segment on a rung, of the labels of the segment before
abbrev pub successors : Rounding → Task → ℕ → (ℕ → List Label) → ℕ → List Label
successors d g segment chain r =
    map (λ c. rounded d (next_label g segment c.0 c.1 r)) (by_rung (rungs_of g.film) chain)

-- the coarse frontier of a segment and a rung
unfoldable pub grown : Rounding → Task → ℕ → ℕ → List Label
grown d g zero q = rounded d (start_label g q) ∷ []
grown d g (suc i) r = undominated (successors d g (suc i) (grown d g i) r)

-- the labels of the coarse frontiers of a segment, with their rungs
abbrev pub grown_labels : Rounding → Task → ℕ → List (ℕ × Label)
grown_labels d g segment = by_rung (rungs_of g.film) (grown d g segment)

-- a plan can be made of this task on this grid
pub record CanPlan (d : Rounding) (g : Task) : Type 0 where
  pub task : IsTask g
  pub grid : IsGrid d
