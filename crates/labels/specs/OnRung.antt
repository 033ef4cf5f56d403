-- A label of a segment on a rung.
use Rattle.std.specs.Prelude.{ℕ, ◌<◌}
use Rattle.lab_model.specs.declared.label.Label.{Label}
use Rattle.lab_model.specs.Film.{rungs_of, segments_of}
use Rattle.player_core.specs.Scene.{IsTask, Task}
use Rattle.labels.specs.Near.{CanFollow}

-- a label of a segment on a rung of a task
pub record OnRung : Type 0 where
  pub scene : Task
  pub segment : ℕ
  pub rung : ℕ
  pub label : Label

-- the task is within the limits, segment and rung are the film's, and the label may be followed
pub record IsOnRung (l : OnRung) : Type 0 where
  pub task : IsTask l.scene
  pub segment : l.segment < segments_of l.scene.film
  pub rung : l.rung < rungs_of l.scene.film
  pub label : CanFollow l.label
