-- What `simulate` answers: the session of one network and one rule.
use Rattle.std.specs.Prelude.{List, [], Option, Some, None, Ok}
use Rattle.std.specs.List.{slice_get}
use Rattle.lab_io.specs.Sink.{Text}
use Rattle.lab_model.specs.declared.trace.Period.{Period}
use Rattle.lab_model.specs.Rules.{RuleKind}
use Rattle.lab_model.specs.Steps.{◌>>=◌}
use Rattle.lab_inputs.specs.Inputs.{InputValues}
use Rattle.lab_inputs.specs.Settings.{settled}
use Rattle.player_core.specs.State.{Case, case_of}
use Rattle.player_core.specs.Session.{session_of}
use Rattle.session_report.specs.Session.{session_text}
use Rattle.abrlab_top.specs.Ahead.{ahead_of}
use Rattle.abrlab_top.specs.Answer.{Outcome, printed, unless_stopped}

-- the case that a command plays on one network under one rule, on demand or live
abbrev pub session_case : InputValues → List Period → RuleKind → Case
session_case i periods rule = case_of i.film periods i.setup i.seeks (ahead_of i.live) rule

-- the text of the session of a network under a rule
abbrev pub session_on : InputValues → List Period → RuleKind → Text
session_on i periods rule = session_text (session_of (session_case i periods rule)) i.setup.weights

-- the answer on this network under this rule; a command line of `simulate` names one of each
abbrev pub simulate_on : InputValues → Option (Text × List Period) → Option (Text × RuleKind) → Outcome
simulate_on i (Some network) (Some rule) = do
  ready ← unless_stopped (settled i)
  Ok (printed (session_on ready network.1 rule.1))
simulate_on i (Some network) None = Ok (printed [])
simulate_on i None rule = Ok (printed [])

-- what `simulate` answers, by its inputs
unfoldable pub simulate : InputValues → Outcome
simulate i = simulate_on i (slice_get i.networks 0) (slice_get i.rules 0)
