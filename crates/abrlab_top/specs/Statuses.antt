-- What each status has for a cause, what a run leaves of the shelf, and when the status is the one that words and files ask for: each
-- follows from `Runs`.
use Rattle.std.specs.Prelude.{◌≡◌, ◌⊎◌, ℕ, ◌==◌, ◌<◌, ◌-◌, ◌^◌, true, false, List, [], ◌∷◌, Option, None, Ok, Err, Contains, IsSome}
use Rattle.std.specs.List.{list_any}
use Rattle.lab_io.specs.Shelf.{Shelved}
use Rattle.lab_io.specs.Sink.{Text, Rose}
use Rattle.lab_words.specs.Words.{begins_with_verb, command_of}
use Rattle.lab_inputs.specs.declared.role.Role.{Role}
use Rattle.lab_inputs.specs.declared.stop.FileFault.TheVariants as fault
use Rattle.lab_inputs.specs.declared.stop.Stop.{Stop}
use Rattle.lab_inputs.specs.declared.stop.Stop.TheVariants as stop
use Rattle.lab_inputs.specs.Files.{Files}
use Rattle.lab_inputs.specs.Roles.{NamedFile}
use Rattle.lab_inputs.specs.Stages.{Asks, AsksSome, Tells}
use Rattle.abrlab_top.specs.declared.ending.Ending.{Ending}
use Rattle.abrlab_top.specs.declared.ending.Ending.TheVariants as ending
use Rattle.abrlab_top.specs.Answer.{Outcome}
use Rattle.abrlab_top.specs.Choice.{no_choice}
use Rattle.abrlab_top.specs.Ending.{status_of, stop_status}
use Rattle.abrlab_top.specs.Outcome.{named_files, outcome, status}
use Rattle.abrlab_top.specs.Runs.{Runs, World}

-- a number is in a list
abbrev pub IsAmong : ℕ → List ℕ → Type 0
IsAmong n ns = list_any (λ m. m == n) ns ≡ true

-- the statuses that a run may answer for an outcome
abbrev pub answers_to : Outcome → List ℕ
answers_to (Ok a) = status_of a.ending ∷ 4 ∷ 5 ∷ 9 ∷ []
answers_to (Err e) = status_of e ∷ 4 ∷ 9 ∷ []

-- the table of statuses: each has its cause
pub record HasCause (line : List Text) (old : World) (result : ℕ) (new : World) : Type 0 where
  -- no other status is answered
  pub known : IsAmong result (0 ∷ 1 ∷ 2 ∷ 3 ∷ 4 ∷ 5 ∷ 6 ∷ 9 ∷ [])
  -- over told files only what the outcome allows is answered
  pub told : (files : Files) → Tells old.shelf files → IsAmong result (answers_to (outcome no_choice line files))
  -- 0: the text went out whole
  pub done : result ≡ 0 → Runs line old ending.Done new
  -- 1: the text went out whole, which says that a certificate isn't valid
  pub invalid : result ≡ 1 → Runs line old ending.Invalid new
  -- 2: the words are refused
  pub usage : result ≡ 2 → Runs line old ending.Usage new × (command_of line ≡ None)
  -- refused words get 2, or memory was wanting
  pub usage_comes : command_of line ≡ None → (result ≡ 2) ⊎ (result ≡ 9)
  -- without a command the answer is 2, and no memory is wanting
  pub no_command : begins_with_verb line ≡ false → result ≡ 2
  -- 3: a file or a setting is refused
  pub refused : result ≡ 3 → (why : Stop) × (stop_status why ≡ 3) × Runs line old (ending.Stopped why) new
  -- 4: a file was not read
  pub not_read : result ≡ 4 → (role : Role) × Runs line old (ending.Stopped (stop.File role fault.NotRead)) new
  -- 5: `out` did not take the text
  pub output : result ≡ 5 → Runs line old ending.OutputFailed new
  -- 6: the frontiers spend the budget
  pub spent : result ≡ 6 → (trace : Option ℕ) × (segment : ℕ) × Runs line old (ending.Spent trace segment) new
  -- 9: memory was wanting
  pub memory : result ≡ 9 → Runs line old ending.NoMemory new × (begins_with_verb line ≡ true)

-- the shelf was asked for the files that the words name, in the order of refusals, each once and for one byte more than its limit: for the
-- first of them, and for all where the run came to its text or spent its budget
pub record LeavesShelf (line : List Text) (result : ℕ) (old new : Shelved) : Type 0 where
  pub asks : AsksSome (named_files line) old new
  pub whole : IsAmong result (0 ∷ 1 ∷ 5 ∷ 6 ∷ []) → Asks (named_files line) old new

-- no fault came from outside: neither the count of a file that the words name and the shelf holds rose, nor that of `out`
pub record NoFaults (line : List Text) (files : Files) (old new : World) : Type 0 where
  pub shelf : (file : NamedFile) → Contains (named_files line) file → IsSome (files file.1) → Rose (old.shelf.faults file.1) (new.shelf.faults file.1) → ⊥
  pub out : Rose old.out.faults new.out.faults → ⊥

-- no fault can come from outside: the files that the words name and the shelf holds are sure, and so is `out`,
-- and no count of these stands at its last value
pub record IsSure (line : List Text) (files : Files) (w : World) : Type 0 where
  pub shelf : (file : NamedFile) → Contains (named_files line) file → IsSome (files file.1) → (w.shelf.sure file.1 ≡ true) × (w.shelf.faults file.1 < 2 ^ 64 - 1)
  pub out : w.out.sure ≡ true
  pub faults : w.out.faults < 2 ^ 64 - 1

-- the answer is the status of words and files, or memory was wanting
abbrev pub IsStatus : List Text → Files → ℕ → Type 0
IsStatus line files result = (result ≡ status line files) ⊎ (result ≡ 9)

-- without a fault from outside the answer is the status, and where there can be none the answer is the status too; but for want of memory
pub record IsComplete (line : List Text) (old : World) (result : ℕ) (new : World) : Type 0 where
  pub faultless : (files : Files) → Tells old.shelf files → NoFaults line files old new → IsStatus line files result
  pub sure : (files : Files) → Tells old.shelf files → IsSure line files old → IsStatus line files result

-- of every run
abbrev pub StatusesHaveCauses : Type 0
StatusesHaveCauses = (line : List Text) (old : World) (e : Ending) (new : World) → Runs line old e new → HasCause line old (status_of e) new

-- each run leaves the shelf as its status says
abbrev pub RunsLeaveTheShelf : Type 0
RunsLeaveTheShelf = (line : List Text) (old : World) (e : Ending) (new : World) → Runs line old e new → LeavesShelf line (status_of e) old.shelf new.shelf

-- each run answers 0 or 1 where files and settings are good and nothing fails
abbrev pub RunsAreComplete : Type 0
RunsAreComplete = (line : List Text) (old : World) (e : Ending) (new : World) → Runs line old e new → IsComplete line old (status_of e) new
