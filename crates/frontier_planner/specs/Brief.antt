-- What is planned, as the planner holds it.
use Rattle.std.specs.Prelude.{ℕ, ◌-◌, ◌<◌, List}
use Rattle.lab_model.specs.declared.label.Label.{Label}
use Rattle.lab_model.specs.Film.{rungs_of}
use Rattle.labels.specs.Grown.{grown_labels}
use Rattle.labels.specs.Near.{CanFollow}
use Rattle.frontier_planner.specs.declared.thin.Followed.{Followed}
use Rattle.frontier_planner.specs.Planning.{Planning}
use Rattle.frontier_planner.specs.Thinned.{AreEnough}

-- for a segment it is enough to follow these instead of all labels of the coarse frontiers before it
abbrev pub AreFollowed : Planning → ℕ → List Followed → Type 0
AreFollowed b segment labels = AreEnough b.grid b.scene segment (grown_labels b.grid b.scene (segment - 1)) labels

-- from this label with its rung one may go on to a rung
pub record CanGoOn (b : Planning) (c : ℕ × Label) (next_rung : ℕ) : Type 0 where
  pub old_rung : c.0 < rungs_of b.scene.film
  pub old : CanFollow c.1
  pub rung : next_rung < rungs_of b.scene.film
