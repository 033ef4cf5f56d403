-- Labels are values.
use Rattle.std.specs.Prelude.{◌≡◌, ℕ, ◌-◌, List}
use Rattle.lab_model.specs.Film.{segments_of}
use Rattle.player_core.specs.Value.{live_value_of}
use Rattle.labels.specs.Labels.{AreRungs, end_value, label_at}
use Rattle.player_core.specs.Scene.{IsTask, Task}

-- the value of a rung list, which is the score of the player's session, is the end value of the labels along it
abbrev pub LabelsAreValues : Type 0
LabelsAreValues =
    (g : Task) → IsTask g → (rungs : List ℕ) → AreRungs g (segments_of g.film) rungs
    → live_value_of g.film g.periods g.setup g.ahead rungs ≡ end_value g (label_at g rungs (segments_of g.film - 1))
