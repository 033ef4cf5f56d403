-- The row of a rule in a comparison: that of the session which it plays with an empty history.
use Rattle.std.specs.Prelude.{List}
use Rattle.lab_model.specs.Limits.{all_ahead}
use Rattle.lab_io.specs.Sink.{Text}
use Rattle.lab_model.specs.declared.context.Seek.{Seek}
use Rattle.lab_model.specs.declared.setup.Setup.{Setup}
use Rattle.lab_model.specs.declared.trace.Period.{Period}
use Rattle.lab_model.specs.Film.{Film}
use Rattle.lab_model.specs.Rules.{RuleKind}
use Rattle.player_core.specs.State.{case_of}
use Rattle.player_core.specs.Session.{session_of}
use Rattle.session_report.specs.Session.{comparison_row}

-- what rules are put side by side on
pub record BenchValue : Type 0 where
  pub film : Film
  pub periods : List Period
  pub setup : Setup
  pub seeks : List Seek

-- the row of a rule with its name
abbrev pub session_row : BenchValue → Text × RuleKind → Text
session_row b rule =
    comparison_row rule.0 (session_of (case_of b.film b.periods b.setup b.seeks all_ahead rule.1)) b.setup.weights
