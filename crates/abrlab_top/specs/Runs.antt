-- A run as one relation: what the shelf was asked, what became of `out` and what `err` was told, by how the run ended.
use Rattle.std.specs.Prelude.{◌≡◌, ◌⊎◌, true, false, List, [], ◌∷◌, Option, Some, None, IsSome, Err}
use Rattle.lab_io.specs.Shelf.{Shelved}
use Rattle.lab_io.specs.Sink.{Text, Seen, Rose, Grew, GrewPart}
use Rattle.lab_words.specs.Command.{CommandWords}
use Rattle.lab_words.specs.Words.{begins_with_verb, command_of}
use Rattle.lab_inputs.specs.Files.{Files}
use Rattle.lab_inputs.specs.Roles.{NamedFile}
use Rattle.lab_inputs.specs.Stages.{Asks, AsksFor, AsksSome, StopsAt, Tells}
use Rattle.abrlab_top.specs.declared.ending.Ending.{Ending}
use Rattle.abrlab_top.specs.declared.ending.Ending.TheVariants as ending
use Rattle.abrlab_top.specs.Answer.{Outcome, text_in}
use Rattle.abrlab_top.specs.Choice.{Choice, Chosen}
use Rattle.abrlab_top.specs.Ending.{IsWhole, Told}
use Rattle.abrlab_top.specs.Outcome.{manner_in, named_by, outcome_by}
use Rattle.abrlab_top.specs.Stages.{Answers, Manner, OutFails}

-- a shelf and two sinks, as they show themselves at a moment
pub record World : Type 0 where
  pub shelf : Shelved
  pub out : Seen
  pub err : Seen

-- the world of these three
abbrev pub world : Shelved → Seen → Seen → World
world shelf out err = record { shelf = shelf; out = out; err = err }

-- what the shelf was asked for: all the files that are named, those up to the one that stops the run, some, or none
abbrev pub HasAsked : List NamedFile → Ending → Shelved → Shelved → Type 0
HasAsked named ending.Done old new = Asks named old new
HasAsked named ending.Invalid old new = Asks named old new
HasAsked named ending.Usage old new = new ≡ old
HasAsked named (ending.Stopped why) old new = AsksFor named why old new
HasAsked named (ending.Spent trace segment) old new = Asks named old new
HasAsked named ending.OutputFailed old new = Asks named old new
HasAsked named ending.NoMemory old new = AsksSome named old new

-- what is known of `out` whatever the shelf tells: nothing went out where the run stopped; where `out` failed its count rose; and where
-- memory was wanting nothing went out or the count of wants rose, but for a command that writes between its rows. Refused words alone
-- end in usage, and a check alone says no
abbrev pub Leaves : Manner → Ending → Seen → Seen → Type 0
Leaves m ending.Done old new = Unit {0}
Leaves m ending.Invalid old new = IsSome m.checks
Leaves m ending.Usage old new = (m.refused ≡ true) × (new ≡ old)
Leaves m (ending.Stopped why) old new = new ≡ old
Leaves m (ending.Spent trace segment) old new = new ≡ old
Leaves m ending.OutputFailed old new = OutFails old new
Leaves m ending.NoMemory old new = m.between ≡ false → (new ≡ old) ⊎ Rose old.wants new.wants

-- over told files: the outcome, and what went out of its text
abbrev pub ComesTo : Outcome → Ending → Seen → Seen → Type 0
ComesTo meant ending.Done old new = Answers meant (λ a. (a.ending ≡ ending.Done) × Grew old.written a.text new.written)
ComesTo meant ending.Invalid old new = Answers meant (λ a. (a.ending ≡ ending.Invalid) × Grew old.written a.text new.written)
ComesTo meant ending.Usage old new = meant ≡ Err ending.Usage
ComesTo meant (ending.Stopped why) old new = StopsAt ending.Stopped meant why
ComesTo meant (ending.Spent trace segment) old new = meant ≡ Err (ending.Spent trace segment)
ComesTo meant ending.OutputFailed old new = Answers meant (λ a. IsWhole a.ending × GrewPart old.written a.text new.written)
ComesTo meant ending.NoMemory old new = GrewPart old.written (text_in meant) new.written

-- the shelf tells these files, if any is named
abbrev pub TellsNamed : List NamedFile → Shelved → Files → Type 0
TellsNamed [] shelf files = Unit {0}
TellsNamed (file ∷ later) shelf files = Tells shelf files

-- why a run over the files that are named, which has this manner and this outcome, ended so
pub record Ends (named : List NamedFile) (m : Manner) (meant : Files → Outcome) (shelf : Shelved) (out : Seen) (e : Ending) (shelf2 : Shelved) (out2 : Seen) : Type 0 where
  pub asked : HasAsked named e shelf shelf2
  pub leaves : Leaves m e out out2
  pub comes : (files : Files) → TellsNamed named shelf files → ComesTo (meant files) e out out2

-- refused words end in usage, or memory was wanting, if they begin with a command
abbrev pub Admits : List Text → Option CommandWords → Ending → Type 0
Admits line None e = (e ≡ ending.Usage) ⊎ ((e ≡ ending.NoMemory) × (begins_with_verb line ≡ true))
Admits line (Some c) e = Unit {0}

-- how a run ended of words that ask for this, if they ask for a command: where they leave a choice, by what was chosen
pub record EndsBy (o : Option CommandWords) (shelf : Shelved) (out : Seen) (e : Ending) (shelf2 : Shelved) (out2 : Seen) : Type 0 where
  pub choice : Choice
  pub chosen : Chosen o choice shelf e
  pub came : Ends (named_by o) (manner_in o) (outcome_by choice o) shelf out e shelf2 out2

-- A RUN of these words, from an old world to a new one, that ended so
pub record Runs (line : List Text) (old : World) (e : Ending) (new : World) : Type 0 where
  pub words : Admits line (command_of line) e
  pub ends : EndsBy (command_of line) old.shelf old.out e new.shelf new.out
  pub err : Told old.err e new.err
