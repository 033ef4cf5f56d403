-- What a run leaves of the shelf, and completeness: by how it ended.
use Rattle.std.proofs.Common.{◌≡◌, ℕ, ◌<◌, ◌^◌, ◌-◌, ◌==◌, ◌++◌, List, [], ◌∷◌, false, Option, Some, None, Err, IsSome, ap, sym, ◌∙◌, refl, arith, inl, inr}
use Rattle.std.specs.List.{Contains, list_any}
use Rattle.std.proofs.lemmas.List.Elements.{Contains-append_right}
use Rattle.lab_io.specs.Shelf.{Shelved}
use Rattle.lab_io.specs.Sink.{Text, Rose}
use Rattle.lab_words.specs.declared.Verb.{Verb}
use Rattle.lab_words.specs.declared.Verb.TheVariants as verb
use Rattle.lab_words.specs.Limits.{HasFilm}
use Rattle.lab_words.specs.Command.{CommandWords}
use Rattle.lab_words.specs.Words.{command_of}
use Rattle.lab_inputs.specs.declared.role.Role.{Role}
use Rattle.lab_inputs.specs.declared.stop.FileFault.TheVariants as fault
use Rattle.lab_inputs.specs.declared.stop.Stop.{Stop}
use Rattle.lab_inputs.specs.declared.stop.Stop.TheVariants as stop
use Rattle.lab_inputs.specs.Files.{AreAccepted, Files}
use Rattle.lab_inputs.specs.Inputs.{InputValues, contents_of, inputs_of}
use Rattle.lab_inputs.specs.Roles.{NamedFile, later_files}
use Rattle.lab_inputs.specs.Stages.{Asks, AsksFor, AsksSome, AsksUpTo, StopsAt, Tells}
use Rattle.lab_inputs.proofs.Files.{asks_all, asks_none}
use Rattle.lab_inputs.proofs.Steps.{lacking, named_film, on_film, stops_some}
use Rattle.abrlab_top.specs.declared.ending.Ending.{Ending}
use Rattle.abrlab_top.specs.declared.ending.Ending.TheVariants as ending
use Rattle.abrlab_top.specs.Answer.{Outcome, ending_in}
use Rattle.abrlab_top.specs.Choice.{Choice, no_choice}
use Rattle.abrlab_top.specs.Ending.{status_of, stop_status}
use Rattle.abrlab_top.specs.Outcome.{about, answer_by, manner_in, named_by, named_files, outcome, outcome_by}
use Rattle.abrlab_top.specs.Runs.{Ends, Runs, TellsNamed, World}
use Rattle.abrlab_top.specs.Stages.{OutFails}
use Rattle.abrlab_top.specs.Statuses.{IsAmong, IsStatus, IsSure, LeavesShelf, RunsAreComplete, RunsLeaveTheShelf}
use Rattle.abrlab_top.proofs.Choices.{same_ending}
use Rattle.abrlab_top.proofs.Statuses.{tells_named}

-- ---- the shelf

never_whole : {A : Type 0} (n : ℕ) → IsAmong n (0 ∷ 1 ∷ 5 ∷ 6 ∷ []) → list_any (λ m. m == n) (0 ∷ 1 ∷ 5 ∷ 6 ∷ []) ≡ false → A
never_whole n h k = cc

stop_whole : {A : Type 0} (why : Stop) → IsAmong (stop_status why) (0 ∷ 1 ∷ 5 ∷ 6 ∷ []) → A
stop_whole (stop.File role fault.NotRead) h = never_whole 4 h refl
stop_whole (stop.File role fault.TooLong) h = never_whole 3 h refl
stop_whole (stop.File role (fault.Refused why)) h = never_whole 3 h refl
stop_whole (stop.Settings setting) h = never_whole 3 h refl

all_asked : (line : List Text) (r : ℕ) (old new : Shelved) → Asks (named_files line) old new → LeavesShelf line r old new
all_asked line r old new x = record { asks = asks_all (named_files line) old new x; whole = λ s. x }

none_asked : (named : List NamedFile) (old new : Shelved) → new ≡ old → AsksSome named old new
none_asked named old new e = rw e (record { asked = []; later = named; split = refl; asks = asks_none old })

-- what a run leaves of the shelf
pub leaves_shelf : RunsLeaveTheShelf
leaves_shelf line old ending.Done new h = all_asked line 0 old.shelf new.shelf h.ends.came.asked
leaves_shelf line old ending.Invalid new h = all_asked line 1 old.shelf new.shelf h.ends.came.asked
leaves_shelf line old ending.Usage new h = record { asks = none_asked (named_files line) old.shelf new.shelf h.ends.came.asked; whole = λ s. never_whole 2 s refl }
leaves_shelf line old (ending.Stopped why) new h = record { asks = stops_some (named_files line) old.shelf new.shelf why h.ends.came.asked; whole = λ s. stop_whole why s }
leaves_shelf line old (ending.Spent trace segment) new h = all_asked line 6 old.shelf new.shelf h.ends.came.asked
leaves_shelf line old ending.OutputFailed new h = all_asked line 5 old.shelf new.shelf h.ends.came.asked
leaves_shelf line old ending.NoMemory new h = record { asks = h.ends.came.asked; whole = λ s. never_whole 9 s refl }

-- ---- completeness

-- what the files of a command lack, the command lacks
inputs_lack : (c : CommandWords) (files : Files) (why : Stop) → contents_of c files ≡ Err why → inputs_of c files ≡ Err why
unfolding inputs_of
inputs_lack c files why e = rw e refl

about_lacks : (after : InputValues → Outcome) (c : CommandWords) (files : Files) (why : Stop) → contents_of c files ≡ Err why → about after c files ≡ Err (ending.Stopped why)
unfolding about
about_lacks after c files why e = rw (inputs_lack c files why e) refl

answer_lacks : (choice : Choice) (v : Verb) (c : CommandWords) (files : Files) (why : Stop) → HasFilm v → contents_of c files ≡ Err why → answer_by choice v c files ≡ Err (ending.Stopped why)
answer_lacks choice verb.Simulate c files why b e = about_lacks _ c files why e
answer_lacks choice verb.Compare c files why b e = about_lacks _ c files why e
answer_lacks choice verb.Plan c files why b e = about_lacks _ c files why e
answer_lacks choice verb.Check c files why b e = about_lacks _ c files why e
answer_lacks choice verb.Demo c files why b e = absurd b

contained : (named before later : List NamedFile) (file : NamedFile) → named ≡ before ++ file ∷ later → Contains named file
contained named before later file e = rw e (Contains-append_right before (file ∷ later) file (0, omega arith, refl))

no_member : {A : Type 0} {X : Type 0} (xs ys : List A) (x : A) → [] ≡ xs ++ x ∷ ys → X
no_member [] ys x e = cc
no_member (y ∷ xs) ys x e = cc

-- a file that was not read, and is not there, is what words and files come to
not_there : (choice : Choice) (o : Option CommandWords) (files : Files) (before later : List NamedFile) (file : NamedFile) → named_by o ≡ before ++ file ∷ later → AreAccepted before files → files file.1 ≡ None
    → outcome_by choice o files ≡ Err (ending.Stopped (stop.File file.0 fault.NotRead))
not_there choice None files before later file e ok n = no_member before later file e
not_there choice (Some c) files before later file e ok n =
    let film = named_film c before later file e in
    let split = sym (on_film c film) ∙ e in
    answer_lacks choice c.verb c files (stop.File file.0 fault.NotRead) film (lacking c.manifest (later_files c) before later file files split ok n)

-- no count of a file that is there rose
abbrev pub Faultless : List Text → Files → Shelved → Shelved → Type 0
Faultless line files old new = (file : NamedFile) → Contains (named_files line) file → IsSome (files file.1) → Rose (old.faults file.1) (new.faults file.1) → ⊥

not_read_outcome : (choice : Choice) (line : List Text) (old new : Shelved) (role : Role) (files : Files) (file : Option Text) (at : AsksUpTo (named_files line) role old new) → files at.name ≡ file
    → AreAccepted at.before files → Rose (old.faults at.name) (new.faults at.name) → Faultless line files old new → outcome choice line files ≡ Err (ending.Stopped (stop.File role fault.NotRead))
not_read_outcome choice line old new role files None at n ok rose faultless = not_there choice (command_of line) files at.before at.later (role, at.name) at.split ok n
not_read_outcome choice line old new role files (Some bytes) at n ok rose faultless =
    absurd (faultless (role, at.name) (contained (named_files line) at.before at.later (role, at.name) at.split) (rw n refl) rose)

-- where no count of a file that is there rose, a stop is what words and files come to
pub stopped_outcome : (choice : Choice) (line : List Text) (old new : Shelved) (why : Stop) (files : Files) → Tells old files → Faultless line files old new
    → AsksFor (named_files line) why old new → StopsAt ending.Stopped (outcome choice line files) why → outcome choice line files ≡ Err (ending.Stopped why)
stopped_outcome choice line old new (stop.File role fault.NotRead) files t faultless x s = not_read_outcome choice line old new role files (files x.0.name) x.0 refl (x.2 files t) x.1 faultless
stopped_outcome choice line old new (stop.File role fault.TooLong) files t faultless x s = s
stopped_outcome choice line old new (stop.File role (fault.Refused why)) files t faultless x s = s
stopped_outcome choice line old new (stop.Settings setting) files t faultless x s = s

-- where no file that is there and not `out` fails, the status is answered, or 9
completes : (line : List Text) (old : World) (e : Ending) (new : World) → Runs line old e new → (files : Files) → Tells old.shelf files → Faultless line files old.shelf new.shelf → (OutFails old.out new.out → ⊥) → IsStatus line files (status_of e)
completes line old e new h files t shelf out = by_ending e h.ends.came
  where
    choice : Choice
    choice = h.ends.choice

    is : (e : Ending) → ending_in (outcome choice line files) ≡ e → IsStatus line files (status_of e)
    is e same = inl (ap status_of (sym same ∙ same_ending choice no_choice line files))

    named : TellsNamed (named_files line) old.shelf files
    named = tells_named (named_files line) old.shelf files t

    by_ending : (e : Ending) → Ends (named_files line) (manner_in (command_of line)) (outcome choice line) old.shelf old.out e new.shelf new.out → IsStatus line files (status_of e)
    by_ending ending.Done x = let a = x.comes files named in is ending.Done (ap ending_in a.1 ∙ a.2.0)
    by_ending ending.Invalid x = let a = x.comes files named in is ending.Invalid (ap ending_in a.1 ∙ a.2.0)
    by_ending ending.Usage x = is ending.Usage (ap ending_in (x.comes files named))
    by_ending (ending.Stopped why) x = is (ending.Stopped why) (ap ending_in (stopped_outcome choice line old.shelf new.shelf why files t shelf x.asked (x.comes files named)))
    by_ending (ending.Spent trace segment) x = is (ending.Spent trace segment) (ap ending_in (x.comes files named))
    by_ending ending.OutputFailed x = absurd (out x.leaves)
    by_ending ending.NoMemory x = inr refl

never_rose : (old new : ℕ) → old < 2 ^ 64 - 1 → new ≡ old → Rose old new → ⊥
never_rose old new l e (inl x) = omega arith
never_rose old new l e (inr x) = omega arith

-- what is sure does not fail
pub sure_shelf : (line : List Text) (old : World) (e : Ending) (new : World) → Runs line old e new → (files : Files) → IsSure line files old → Faultless line files old.shelf new.shelf
sure_shelf line old e new h files s file named there rose =
    let x = s.shelf file named there in never_rose _ _ x.1 ((leaves_shelf line old e new h).asks.asks.steady file.1 x.0) rose

-- where all is sure, the stream for results does not fail
pub sure_out : (line : List Text) (old new : World) (files : Files) → IsSure line files old → OutFails old.out new.out → ⊥
sure_out line old new files s x = never_rose _ _ s.faults (x.steady s.out) x.rose

-- completeness, by what did not fail and by what cannot
pub complete : RunsAreComplete
complete line old e new h = record {
  faultless = λ files t f. completes line old e new h files t f.shelf (λ x. f.out x.rose);
  sure = λ files t s. completes line old e new h files t (sure_shelf line old e new h files s) (sure_out line old new files s);
}
