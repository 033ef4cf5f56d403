-- Files read one after the other: the first that is refused refuses the whole.
use Rattle.std.specs.Prelude.{ℕ, ◌+◌, List, [], ◌∷◌, length, Option, Some, None, Result, Ok, Err, IsOk, if◌then◌else◌, nat_lt}
use Rattle.lab_io.specs.Sink.{Text}
use Rattle.lab_model.specs.declared.fault.Refusal.{Refusal}
use Rattle.lab_model.specs.Film.{Film}
use Rattle.lab_model.specs.Steps.{◌>>=◌}
use Rattle.manifest_reader.specs.Manifest.{manifest_of}
use Rattle.lab_inputs.specs.declared.role.Role.{Role}
use Rattle.lab_inputs.specs.declared.role.Role.TheVariants as role
use Rattle.lab_inputs.specs.declared.stop.FileFault.{FileFault}
use Rattle.lab_inputs.specs.declared.stop.FileFault.TheVariants as fault
use Rattle.lab_inputs.specs.declared.stop.Stop.{Stop}
use Rattle.lab_inputs.specs.declared.stop.Stop.TheVariants as stop
use Rattle.lab_inputs.specs.Contents.{ContentValues, film_alone}
use Rattle.lab_inputs.specs.Roles.{NamedFile, role_row}

-- the bytes of each file by its name, and none where there is no such file
abbrev pub Files : Type 0
Files = Text → Option Text

-- what a shelf is asked for: the name of the file, and one byte more than its limit
abbrev pub request_of : NamedFile → Text × ℕ
request_of file = (file.1, (role_row file.0).limit + 1)

-- the bytes of a file that is there and within its limit
abbrev pub bytes_of : Role → Option Text → Result Text FileFault
bytes_of role None = Err fault.NotRead
bytes_of role (Some bytes) = if nat_lt (role_row role).limit (length bytes) then Err fault.TooLong else Ok bytes

-- what a reader makes of bytes
abbrev pub read_as : {A : Type 0} → Result A Refusal → Result A FileFault
read_as (Ok x) = Ok x
read_as (Err why) = Err (fault.Refused why)

-- what a reader makes of a file
abbrev pub file_in : {A : Type 0} → (Text → Result A Refusal) → NamedFile → Files → Result A FileFault
file_in read file files = do
  bytes ← bytes_of file.0 (files file.1)
  read_as (read bytes)

-- a fault of a file stops the command, which says what the file is for
abbrev pub at_role : {A : Type 0} → Role → Result A FileFault → Result A Stop
at_role role (Ok x) = Ok x
at_role role (Err why) = Err (stop.File role why)

-- the film in the file of this name
unfoldable pub film_in : Text → Files → Result Film FileFault
film_in name = file_in manifest_of (role.Manifest, name)

-- what one file more makes of what those before it hold
unfoldable pub with_file : ContentValues → NamedFile → Files → Result ContentValues FileFault
with_file v file = file_in ((role_row file.0).adds file.1 v) file

-- the same of all these files
abbrev pub with_files : ContentValues → List NamedFile → Files → Result ContentValues Stop
with_files v [] files = Ok v
with_files v (file ∷ later) files = do
  more ← at_role file.0 (with_file v file files)
  with_files more later files

-- what a manifest and the files behind it hold
unfoldable pub contents_from : Text → List NamedFile → Files → Result ContentValues Stop
contents_from manifest later files = do
  film ← at_role role.Manifest (film_in manifest files)
  with_files (film_alone film) later files

-- these files are accepted, one after the other; the first of them is the manifest
abbrev pub AreAccepted : List NamedFile → Files → Type 0
AreAccepted [] files = Unit {0}
AreAccepted (manifest ∷ later) files = IsOk (contents_from manifest.1 later files)
