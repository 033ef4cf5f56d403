-- What a command comes to: what it prints, or the stop that comes first.
use Rattle.std.specs.Prelude.{[], Result, Ok, Err}
use Rattle.lab_io.specs.Sink.{Text}
use Rattle.lab_inputs.specs.declared.stop.Stop.{Stop}
use Rattle.abrlab_top.specs.declared.ending.Ending.{Ending}
use Rattle.abrlab_top.specs.declared.ending.Ending.TheVariants as ending

-- how a run ends whose text goes out whole, and what is printed on `out`
pub record Answer : Type 0 where
  pub ending : Ending
  pub text : Text

-- the answer that is done once it is printed
abbrev pub printed : Text → Answer
printed text = record { ending = ending.Done; text = text }

-- an answer, or the ending of a run that has none
abbrev pub Outcome : Type 0
Outcome = Result Answer Ending

-- a value, unless there is a stop
abbrev pub unless_stopped : {A : Type 0} → Result A Stop → Result A Ending
unless_stopped (Ok x) = Ok x
unless_stopped (Err why) = Err (ending.Stopped why)

-- how a run of this outcome ends where nothing fails
abbrev pub ending_in : Outcome → Ending
ending_in (Ok a) = a.ending
ending_in (Err e) = e

-- what it prints
abbrev pub text_in : Outcome → Text
text_in (Ok a) = a.text
text_in (Err e) = []
