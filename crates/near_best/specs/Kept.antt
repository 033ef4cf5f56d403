-- Labels that the search for a list keeps.
use Rattle.std.specs.Prelude.{ℕ, ◌+◌, ◌*◌, ◌<◌, ◌≤◌, List}
use Rattle.std.specs.List.{All}
use Rattle.lab_model.specs.Film.{rungs_of}
use Rattle.lab_model.specs.Number.{IsNear}
use Rattle.lab_model.specs.declared.label.Label.{Label}
use Rattle.player_core.specs.Scene.{Task}
use Rattle.near_best.specs.declared.list.Kept.{Kept}
use Rattle.near_best.specs.declared.list.Layer.{Layer}

-- a label of a segment lies no farther than any along a rung list
pub record IsInReach (segment : ℕ) (l : Label) : Type 0 where
  pub time : l.t ≤ (segment + 1) * 500000000
  pub delay : l.p ≤ (segment + 1) * 500000000
  pub value : IsNear ((segment + 1) * 3000000000000 + 600000000000000) l.v

-- a label that is kept of a segment, on a rung of the film
pub record IsKept (g : Task) (segment : ℕ) (k : Kept) : Type 0 where
  pub rung : k.rung < rungs_of g.film
  pub reach : IsInReach segment k.label

-- labels of segments, on rungs of the film
abbrev pub AreOnRungs : Task → List Layer → Type 0
AreOnRungs g layers = All (λ (l : Layer). All (λ (k : Kept). k.rung < rungs_of g.film) l.kept.items) layers
