-- What is planned: a task, and the grid on which its labels are rounded.
use Rattle.player_core.specs.Scene.{Task}
use Rattle.labels.specs.Grid.{Rounding}
use Rattle.labels.specs.Grown.{CanPlan}

-- a task with a grid
pub record Planning : Type 0 where
  pub scene : Task
  pub grid : Rounding

-- both lie within their limits
abbrev pub IsPlanning : Planning → Type 0
IsPlanning p = CanPlan p.grid p.scene
