-- What players, plans and checks are given: a film, a network, a setup and the media ahead, as one value with its limits.
use Rattle.std.specs.Prelude.{ℕ, ◌≤◌, List}
use Rattle.lab_model.specs.Limits.{all_ahead}
use Rattle.lab_model.specs.declared.setup.Setup.{Setup}
use Rattle.lab_model.specs.declared.trace.Period.{Period}
use Rattle.lab_model.specs.declared.context.Seek.{Seek}
use Rattle.lab_model.specs.Cycle.{IsTrace}
use Rattle.lab_model.specs.Film.{Film, IsFilm}
use Rattle.lab_model.specs.Fit.{SetupFits}
use Rattle.lab_model.specs.Rules.{RuleKind}
use Rattle.lab_model.specs.Weighing.{IsWeighing}
use Rattle.player_core.specs.State.{Case, case_of}

-- film, network, setup and the media that are there at instant 0
pub record Task : Type 0 where
  pub film : Film
  pub periods : List Period
  pub setup : Setup
  pub ahead : ℕ

-- the task of these parts
abbrev pub task_of : Film → List Period → Setup → ℕ → Task
task_of f periods set ahead = record { film = f; periods = periods; setup = set; ahead = ahead }

-- a task within the limits
pub record IsTask (g : Task) : Type 0 where
  pub film : IsFilm g.film
  pub trace : IsTrace g.periods
  pub setup : SetupFits g.setup g.film
  pub weights : IsWeighing g.setup.weights
  pub ahead : g.ahead ≤ all_ahead

-- the case of a task with a seek script and a kind of rule
abbrev pub case_in : Task → List Seek → RuleKind → Case
case_in g seeks kind = case_of g.film g.periods g.setup seeks g.ahead kind
