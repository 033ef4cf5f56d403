-- What a plan and a certificate prove: the value of a list, and that no list has more than a bound.
use Rattle.std.specs.Prelude.{◌≡◌, ℕ, List, ℤ, ◌≤ℤ◌}
use Rattle.lab_model.specs.Film.{segments_of}
use Rattle.player_core.specs.Value.{live_value_of}
use Rattle.labels.specs.Labels.{AreRungs}
use Rattle.player_core.specs.Scene.{Task}

-- the value of a rung list: the score of the session that plays it
abbrev pub task_value : Task → List ℕ → ℤ
task_value g rungs = live_value_of g.film g.periods g.setup g.ahead rungs

-- the list is a rung list with this value, and no rung list has a value above the bound
pub record Settles (g : Task) (rungs : List ℕ) (score bound : ℤ) : Type 0 where
  pub list : AreRungs g (segments_of g.film) rungs
  pub value : task_value g rungs ≡ score
  pub most : (others : List ℕ) → AreRungs g (segments_of g.film) others → task_value g others ≤ℤ bound
