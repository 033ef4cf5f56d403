-- What the files of a command hold, and what one file more adds to it.
use Rattle.std.specs.Prelude.{ℕ, ◌/◌, List, [], ◌∷◌, ◌++◌, length, replicate, Result, if◌then◌else◌, Bool, codes, nat_eq}
use Rattle.std.specs.List.{ends_with}
use Rattle.lab_io.specs.Sink.{Text}
use Rattle.lab_model.specs.declared.context.Seek.{Seek}
use Rattle.lab_model.specs.declared.fault.Refusal.{Refusal}
use Rattle.lab_model.specs.declared.trace.Period.{Period}
use Rattle.lab_model.specs.Film.{Film, rungs_of}
use Rattle.lab_model.specs.Row.{AreUtilities}
use Rattle.trace_reader.specs.Trace.{trace_json}
use Rattle.trace_reader.specs.TraceCsv.{trace_csv_of}

-- the film, the utilities of a table row by row, the networks in order, each behind its name, the seeks, and the bytes of the certificate
pub record ContentValues : Type 0 where
  pub film : Film
  pub table : List ℕ
  pub networks : List (Text × List Period)
  pub seeks : List Seek
  pub certificate : Text

-- one row of utilities of 0, which stands there until a table is read
abbrev pub no_table : Film → List ℕ
no_table film = replicate (rungs_of film) 0

-- the utilities are rows within their limits, with a utility for each rung of the film
abbrev pub IsTable : Film → List ℕ → Type 0
IsTable film table = AreUtilities table (rungs_of film) (length table / rungs_of film)

-- the film alone
abbrev pub film_alone : Film → ContentValues
film_alone film = record { film = film; table = no_table film; networks = []; seeks = []; certificate = [] }

-- the film in place of the one before, whose table and seeks go with it
abbrev pub with_film : ContentValues → Film → ContentValues
with_film v film = record v { film = film; table = no_table film; seeks = [] }

-- these utilities
abbrev pub with_table : ContentValues → List ℕ → ContentValues
with_table v table = record v { table = table }

-- one network more, of this name
abbrev pub with_network : Text → ContentValues → List Period → ContentValues
with_network name v periods = record v { networks = v.networks ++ (name, periods) ∷ [] }

-- these seeks
abbrev pub with_seeks : ContentValues → List Seek → ContentValues
with_seeks v seeks = record v { seeks = seeks }

-- the certificate of these bytes
abbrev pub with_certificate : ContentValues → Text → ContentValues
with_certificate v bytes = record v { certificate = bytes }

-- the name of a file in the CSV format
abbrev pub is_csv : Text → Bool
is_csv name = ends_with nat_eq name (codes ".csv")

-- the network that the bytes of a file are, by the format that its name tells
abbrev pub trace_of : Text → Text → Result (List Period) Refusal
trace_of name bytes = if is_csv name then trace_csv_of bytes else trace_json bytes
