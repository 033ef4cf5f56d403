-- What a command is about, as one value: what its files hold, with the setup and the rules of its words.
use Rattle.std.specs.Prelude.{◌≡◌, ℕ, List, Option, Some, None, Result, length}
use Rattle.lab_io.specs.Sink.{Text}
use Rattle.lab_model.specs.declared.context.Seek.{Seek}
use Rattle.lab_model.specs.declared.setup.Setup.{Setup}
use Rattle.lab_model.specs.declared.trace.Period.{Period}
use Rattle.lab_model.specs.Film.{Film, rungs_of}
use Rattle.lab_model.specs.Rules.{RuleKind}
use Rattle.lab_model.specs.Steps.{map_ok}
use Rattle.lab_model.specs.Weighing.{Weighing, table_weighing, weighing}
use Rattle.lab_words.specs.declared.Command.{Command}
use Rattle.lab_words.specs.Command.{CommandWords, view}
use Rattle.lab_inputs.specs.declared.stop.Stop.{Stop}
use Rattle.lab_inputs.specs.Contents.{ContentValues}
use Rattle.lab_inputs.specs.Files.{Files, contents_from}
use Rattle.lab_inputs.specs.Roles.{later_files}

-- the film, the setup, the networks in order, each behind its name, the seeks, the bytes of the certificate, the rules in order,
-- each behind its word, and for a live film the milliseconds of media that are there at instant 0
pub record InputValues : Type 0 where
  pub film : Film
  pub setup : Setup
  pub networks : List (Text × List Period)
  pub seeks : List Seek
  pub certificate : Text
  pub rules : List (Text × RuleKind)
  pub live : Option ℕ

-- the weights: those of the words, or those of the table where one is named
abbrev pub weights_by : Option Text → List ℕ → List ℕ → ℕ → ℕ → ℕ → ℕ → Weighing
weights_by None utilities table rungs switch stall startup = weighing utilities switch stall startup
weights_by (Some name) utilities table rungs switch stall startup = table_weighing table rungs switch stall startup

-- the setup that the options give, with the utilities of the words or of the table
abbrev pub setup_of : CommandWords → ContentValues → Setup
setup_of c v = record {
  buffer_ms = c.buffer_ms;
  weights = weights_by c.table c.utilities v.table (rungs_of v.film) c.switch c.stall c.startup;
  abandon = c.abandon;
}

-- what a command is about whose files hold this
abbrev pub inputs_on : CommandWords → ContentValues → InputValues
inputs_on c v = record { film = v.film; setup = setup_of c v; networks = v.networks; seeks = v.seeks; certificate = v.certificate; rules = c.rules; live = c.live }

-- what the files of a command hold
abbrev pub contents_of : CommandWords → Files → Result ContentValues Stop
contents_of c = contents_from c.manifest (later_files c)

-- what a command is about, by its files
unfoldable pub inputs_of : CommandWords → Files → Result InputValues Stop
inputs_of c files = map_ok (inputs_on c) (contents_of c files)

-- what a command is about that these words ask for: its files hold it, with a network for each name
pub record AreFor (c : CommandWords) (i : InputValues) : Type 0 where
  pub contents : ContentValues
  pub count : length contents.networks ≡ length c.traces
  pub is : i ≡ inputs_on c contents

-- the words of a command, without where they lie in memory
abbrev pub words_of : Command → CommandWords
words_of = view
