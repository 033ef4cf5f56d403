-- The table of roles: for each role of a file its limit, its word and what its bytes add; and the files that a command names, in
-- the order of refusals.
use Rattle.std.specs.Prelude.{ℕ, ◌+◌, Bool, if◌then◌else◌, List, [], ◌∷◌, ◌++◌, Option, Some, None, Result, Ok, Err, codes}
use Rattle.std.specs.Fmt.{decimal}
use Rattle.lab_io.specs.Sink.{Text}
use Rattle.lab_model.specs.declared.fault.Refusal.{Refusal}
use Rattle.lab_model.specs.Film.{rungs_of, segments_of}
use Rattle.lab_model.specs.Steps.{map_ok}
use Rattle.lab_words.specs.declared.Verb.{Verb}
use Rattle.lab_words.specs.declared.Verb.TheVariants as verb
use Rattle.lab_words.specs.Command.{CommandWords}
use Rattle.manifest_reader.specs.Manifest.{manifest_of}
use Rattle.seek_script.specs.Script.{seeks_of}
use Rattle.utility_table.specs.Table.{table_utilities}
use Rattle.lab_inputs.specs.declared.role.Role.{Role}
use Rattle.lab_inputs.specs.declared.role.Role.TheVariants as role
use Rattle.lab_inputs.specs.Contents.{ContentValues, trace_of, with_certificate, with_film, with_network, with_seeks, with_table}

-- ---- the table

-- the row of a role: the most bytes of its file, its words, and what the bytes of a file of this name add to what those before it hold
pub record RoleRow : Type 0 where
  pub limit : ℕ
  pub words : Text
  pub adds : Text → ContentValues → Text → Result ContentValues Refusal

-- the row of each role; the bytes of a certificate are read later
abbrev pub role_row : Role → RoleRow
role_row role.Manifest = record {
  limit = 67108864;
  words = codes "manifest";
  adds = λ name v bytes. map_ok (with_film v) (manifest_of bytes);
}
role_row role.Utilities = record {
  limit = 67108864;
  words = codes "utilities";
  adds = λ name v bytes. map_ok (with_table v) (table_utilities bytes (segments_of v.film) (rungs_of v.film));
}
role_row role.Trace = record {
  limit = 67108864;
  words = codes "trace";
  adds = λ name v bytes. map_ok (with_network name v) (trace_of name bytes);
}
role_row (role.TraceAt place) = record {
  limit = 67108864;
  words = codes "trace " ++ decimal place;
  adds = λ name v bytes. map_ok (with_network name v) (trace_of name bytes);
}
role_row role.Seeks = record {
  limit = 67108864;
  words = codes "seeks";
  adds = λ name v bytes. map_ok (with_seeks v) (seeks_of bytes (segments_of v.film));
}
role_row role.Certificate = record {
  limit = 536870912;
  words = codes "certificate";
  adds = λ name v bytes. Ok (with_certificate v bytes);
}
role_row role.PriceCertificate = record {
  limit = 67108864;
  words = codes "certificate";
  adds = λ name v bytes. Ok (with_certificate v bytes);
}

-- ---- the order

-- a file that a command names: what it is for, and its name
abbrev pub NamedFile : Type 0
NamedFile = Role × Text

-- what the trace at a place is for: `compare` counts its traces from 1, the others have one
abbrev pub trace_role : Verb → ℕ → Role
trace_role verb.Simulate place = role.Trace
trace_role verb.Compare place = role.TraceAt place
trace_role verb.Plan place = role.Trace
trace_role verb.Check place = role.Trace
trace_role verb.Demo place = role.Trace

-- traces, the first of which has this place
abbrev pub traces_from : Verb → ℕ → List Text → List NamedFile
traces_from v place [] = []
traces_from v place (name ∷ names) = (trace_role v place, name) ∷ traces_from v (place + 1) names

-- the traces that a command names
abbrev pub trace_files : Verb → List Text → List NamedFile
trace_files v = traces_from v 1

-- a file of this role, where one is named
abbrev pub optional_file : Role → Option Text → List NamedFile
optional_file role None = []
optional_file role (Some name) = (role, name) ∷ []

-- what the certificate of a command is: one by prices, or by labels
abbrev pub certificate_role : Bool → Role
certificate_role near = if near then role.PriceCertificate else role.Certificate

-- the files that come behind the manifest
abbrev pub later_files : CommandWords → List NamedFile
later_files c =
    optional_file role.Utilities c.table
    ++ (trace_files c.verb c.traces ++ (optional_file role.Seeks c.seeks ++ optional_file (certificate_role c.near) c.certificate))

-- the files of a command on a film, in the order of refusals
abbrev pub film_files : CommandWords → List NamedFile
film_files c = (role.Manifest, c.manifest) ∷ later_files c

-- the files that a command names, in the order of refusals: `demo` names none
abbrev pub files_by : Verb → CommandWords → List NamedFile
files_by verb.Simulate c = film_files c
files_by verb.Compare c = film_files c
files_by verb.Plan c = film_files c
files_by verb.Check c = film_files c
files_by verb.Demo c = []

-- the files that a command names, in the order of refusals
abbrev pub files_of : CommandWords → List NamedFile
files_of c = files_by c.verb c
