-- The law of bounds by prices.
use Rattle.std.specs.Prelude.{ℕ, List, ◌≤ℤ◌}
use Rattle.lab_model.specs.Film.{segments_of}
use Rattle.player_core.specs.Scene.{IsTask, Task}
use Rattle.labels.specs.Best.{task_value}
use Rattle.labels.specs.Labels.{AreRungs}
use Rattle.price_bounds.specs.declared.window.Window.{Window}
use Rattle.price_bounds.specs.Bound.{bound_of}
use Rattle.price_bounds.specs.Windows.{AreWindows}

-- no rung list has a value above the bound of any windows
abbrev pub NoListPasses : Type 0
NoListPasses =
    (g : Task) → IsTask g → (ws : List Window) → AreWindows (segments_of g.film) ws
    → (rungs : List ℕ) → AreRungs g (segments_of g.film) rungs → task_value g rungs ≤ℤ bound_of g ws
