-- What a run over files and sinks in memory, of which none fails, came to.
use Rattle.std.specs.Prelude.{◌≡◌, ◌⊎◌, ◌++◌, ◌<◌, ℕ, [], false, List}
use Rattle.lab_io.specs.Memory.{SureText}
use Rattle.lab_io.specs.Sink.{Text}
use Rattle.lab_words.specs.Words.{command_of}
use Rattle.lab_inputs.specs.Files.{Files}
use Rattle.abrlab_top.specs.declared.ending.Ending.TheVariants as ending
use Rattle.abrlab_top.specs.Choice.{Choice, ChosenOver}
use Rattle.abrlab_top.specs.Ending.{note_of}
use Rattle.abrlab_top.specs.Outcome.{manner_in, note, status, text}

-- the text begins with these bytes
abbrev pub BeginsWith : Text → Text → Type 0
BeginsWith whole part = (rest : Text) × (whole ≡ part ++ rest)

-- a sink that was new took this text whole, or it wanted memory and took a prefix
abbrev pub Took : Text → SureText → Type 0
Took said s = (s.written ≡ said) ⊎ (BeginsWith said s.written × (0 < s.wants))

-- the status that words and files ask for, with their text, where this was chosen, and their note. Or memory was wanting: then a prefix of the
-- text stands there, of a command that does not write between its rows only where the sink wanted memory, and the note says so
abbrev pub HasPrinted : Choice → List Text → Files → ℕ → SureText → SureText → Type 0
HasPrinted choice line files status_is out err =
    ((status_is ≡ status line files) × (out.written ≡ text choice line files) × Took (note line files) err)
    ⊎ ((status_is ≡ 9) × BeginsWith (text choice line files) out.written
    × ((manner_in (command_of line)).between ≡ false → (out.written ≡ []) ⊎ (0 < out.wants)) × Took (note_of ending.NoMemory) err)

-- the same by some choice, which holds where the status is 0
abbrev pub IsPrinted : List Text → Files → ℕ → SureText → SureText → Type 0
IsPrinted line files status_is out err =
    (choice : Choice) × (status_is ≡ 0 → ChosenOver (command_of line) choice files) × HasPrinted choice line files status_is out err
