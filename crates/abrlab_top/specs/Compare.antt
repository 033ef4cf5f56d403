-- What `compare` answers: for each network its line, and a row for each rule, each of a session with an empty history.
use Rattle.std.specs.Prelude.{List, [], ◌∷◌, ◌++◌, Ok, codes}
use Rattle.std.specs.List.{flat_map}
use Rattle.lab_io.specs.Piece.{fields_line}
use Rattle.lab_io.specs.Sink.{Text}
use Rattle.lab_model.specs.declared.trace.Period.{Period}
use Rattle.lab_model.specs.Steps.{◌>>=◌}
use Rattle.lab_inputs.specs.Inputs.{InputValues}
use Rattle.lab_inputs.specs.Settings.{settled}
use Rattle.abrlab_top.specs.Answer.{Outcome, printed, unless_stopped}
use Rattle.abrlab_top.specs.Rows.{BenchValue, session_row}

-- the rules of a command line are put side by side on one network
abbrev pub bench_on : InputValues → List Period → BenchValue
bench_on i periods = record { film = i.film; periods = periods; setup = i.setup; seeks = i.seeks }

-- the line of a network and its rows, by the rules in order
abbrev pub network_rows : InputValues → Text × List Period → Text
network_rows i network = fields_line (codes "trace" ∷ network.0 ∷ []) ++ flat_map (session_row (bench_on i network.1)) i.rules

-- what `compare` answers, by its inputs
unfoldable pub compare : InputValues → Outcome
compare i = do
  ready ← unless_stopped (settled i)
  Ok (printed (flat_map (network_rows ready) ready.networks))
