-- What a stage of a command has for a cause: the files that it asked for, and what came of them.
use Rattle.std.specs.Prelude.{◌≡◌, ◌≤◌, true, List, [], ◌∷◌, ◌++◌, map, Some, Result, Ok, Err, string_bytes}
use Rattle.lab_io.specs.Sink.{Text, Rose}
use Rattle.lab_io.specs.Shelf.{Shelved}
use Rattle.lab_model.specs.declared.fault.InputFault.{InputFault}
use Rattle.lab_model.specs.declared.fault.InputFault.TheVariants.{Memory, Refused}
use Rattle.lab_model.specs.declared.trace.Period.{Period}
use Rattle.lab_inputs.specs.declared.fetch.FileErr.{FileErr}
use Rattle.lab_inputs.specs.declared.fetch.FileErr.TheVariants as err
use Rattle.lab_inputs.specs.declared.contents.Network.{Network}
use Rattle.lab_inputs.specs.declared.role.FileName.{FileName}
use Rattle.lab_inputs.specs.declared.role.Role.{Role}
use Rattle.lab_inputs.specs.declared.stop.FileFault.{FileFault}
use Rattle.lab_inputs.specs.declared.stop.FileFault.TheVariants as fault
use Rattle.lab_inputs.specs.declared.stop.Stop.{Stop}
use Rattle.lab_inputs.specs.declared.stop.Stop.TheVariants as stop
use Rattle.lab_inputs.specs.declared.stop.Halt.{Halt}
use Rattle.lab_inputs.specs.declared.stop.Halt.TheVariants as halt
use Rattle.lab_inputs.specs.Files.{AreAccepted, Files, request_of}
use Rattle.lab_inputs.specs.Inputs.{InputValues}
use Rattle.lab_inputs.specs.Roles.{NamedFile}
use Rattle.lab_inputs.specs.Settings.{Fits, settled}

-- the shelf tells these files
abbrev pub Tells : Shelved → Files → Type 0
Tells shelf files = shelf.files ≡ Some files

-- ---- what a shelf was asked

-- it was asked for just these files, in this order, and for one byte more than the limit of each;
-- it keeps its files and what is sure, no count of it falls, and that of a sure name stays
pub record Asks (wanted : List NamedFile) (old new : Shelved) : Type 0 where
  pub asked : new.asked ≡ old.asked ++ map request_of wanted
  pub files : new.files ≡ old.files
  pub faults : (name : Text) → old.faults name ≤ new.faults name
  pub sure : new.sure ≡ old.sure
  pub steady : (name : Text) → old.sure name ≡ true → new.faults name ≡ old.faults name

-- it was asked for the first of these files, or for all, or for none
pub record AsksSome (named : List NamedFile) (old new : Shelved) : Type 0 where
  pub asked : List NamedFile
  pub later : List NamedFile
  pub split : named ≡ asked ++ later
  pub asks : Asks asked old new

-- it was asked for the files up to one of this role
pub record AsksUpTo (named : List NamedFile) (role : Role) (old new : Shelved) : Type 0 where
  pub before : List NamedFile
  pub name : Text
  pub later : List NamedFile
  pub split : named ≡ before ++ (role, name) ∷ later
  pub asks : Asks (before ++ (role, name) ∷ []) old new

-- what it was asked for by a command that stops so: the files up to the one that is refused, or all; the count of a file that was
-- not read rose, and over told files those before it are accepted
abbrev pub AsksFor : List NamedFile → Stop → Shelved → Shelved → Type 0
AsksFor named (stop.File role fault.NotRead) old new =
    (at : AsksUpTo named role old new) × Rose (old.faults at.name) (new.faults at.name) × ((files : Files) → Tells old files → AreAccepted at.before files)
AsksFor named (stop.File role fault.TooLong) old new = AsksUpTo named role old new
AsksFor named (stop.File role (fault.Refused why)) old new = AsksUpTo named role old new
AsksFor named (stop.Settings setting) old new = Asks named old new

-- ---- what a stage comes to

-- over told files it comes to just this
abbrev pub Means : {A : Type 0} → (Files → A) → Shelved → A → Type 0
Means meant old r = (files : Files) → Tells old files → meant files ≡ r

-- what reading one file gave: its value, or its fault
abbrev pub Reads : {X Y : Type 0} → NamedFile → (X → Y) → (Files → Result Y FileFault) → Shelved → Result X FileErr → Shelved → Type 0
Reads file seen meant old (Ok x) new = Asks (file ∷ []) old new × Means meant old (Ok (seen x))
Reads file seen meant old (Err (err.Stopped fault.NotRead)) new = Asks (file ∷ []) old new × Rose (old.faults file.1) (new.faults file.1)
Reads file seen meant old (Err (err.Stopped fault.TooLong)) new = Asks (file ∷ []) old new × Means meant old (Err fault.TooLong)
Reads file seen meant old (Err (err.Stopped (fault.Refused why))) new = Asks (file ∷ []) old new × Means meant old (Err (fault.Refused why))
Reads file seen meant old (Err err.Memory) new = AsksSome (file ∷ []) old new

-- a stage comes to this stop; a file that is not read says nothing of what it comes to
abbrev pub StopsAt : {Y E : Type 0} → (Stop → E) → Result Y E → Stop → Type 0
StopsAt into meant (stop.File role fault.NotRead) = Unit {0}
StopsAt into meant (stop.File role fault.TooLong) = meant ≡ Err (into (stop.File role fault.TooLong))
StopsAt into meant (stop.File role (fault.Refused why)) = meant ≡ Err (into (stop.File role (fault.Refused why)))
StopsAt into meant (stop.Settings setting) = meant ≡ Err (into (stop.Settings setting))

-- why a stage stopped: what was asked for, and what it comes to over told files
abbrev pub Stops : {Y : Type 0} → List NamedFile → (Files → Result Y Stop) → Shelved → Stop → Shelved → Type 0
Stops named meant old why new = AsksFor named why old new × ((files : Files) → Tells old files → StopsAt (λ s. s) (meant files) why)

-- what a stage of a command that names these files gave: its value, or why the command stopped
abbrev pub Comes : {X Y : Type 0} → List NamedFile → (X → Y) → (Files → Result Y Stop) → Shelved → Result X Halt → Shelved → Type 0
Comes named seen meant old (Ok x) new = Asks named old new × Means meant old (Ok (seen x))
Comes named seen meant old (Err (halt.Stopped why)) new = Stops named meant old why new
Comes named seen meant old (Err halt.NoMemory) new = AsksSome named old new

-- ---- what the values are

-- why a file that its reader does not accept ends the stage
abbrev pub err_of : InputFault → FileErr
err_of Memory = err.Memory
err_of (Refused why) = err.Stopped (fault.Refused why)

-- why a fault of a file ends the command
abbrev pub halt_of : Role → FileErr → Halt
halt_of role err.Memory = halt.NoMemory
halt_of role (err.Stopped why) = halt.Stopped (stop.File role why)

-- a file that a command names, without where its name lies in memory
abbrev pub named_file : FileName → NamedFile
named_file file = (file.role, file.name.now)

-- a network behind its name, without where the name lies in memory
abbrev pub network_of : Network → Text × List Period
network_of n = (string_bytes n.name, n.trace)

-- what testing the settings came to: all fits, or the stop that tells the first that does not
abbrev pub IsSettled : InputValues → Result (Unit {0}) Stop → Type 0
IsSettled i (Ok done) = (settled i ≡ Ok i) × Fits i
IsSettled i (Err why) = settled i ≡ Err why
