-- What commands with a choice gave: what they chose, and how they ended by it.
use Rattle.std.specs.Prelude.{◌≡◌, ℤ, Bool, List, Some, Ok}
use Rattle.std.specs.List.{slice_get}
use Rattle.lab_io.specs.Shelf.{Shelved}
use Rattle.lab_io.specs.Sink.{Seen, Text}
use Rattle.lab_model.specs.declared.trace.Period.{Period}
use Rattle.lab_words.specs.Command.{CommandWords}
use Rattle.lab_inputs.specs.Files.{Files}
use Rattle.lab_inputs.specs.Inputs.{InputValues, inputs_of}
use Rattle.lab_inputs.specs.Roles.{film_files}
use Rattle.lab_inputs.specs.Stages.{Tells}
use Rattle.price_bounds.specs.Verdict.{PriceParts}
use Rattle.abrlab_top.specs.declared.ending.Ending.{Ending}
use Rattle.abrlab_top.specs.Choice.{AreBounds, HasText, IsNearBest}
use Rattle.abrlab_top.specs.Near.{near_plan}
use Rattle.abrlab_top.specs.Outcome.{about}
use Rattle.abrlab_top.specs.Plan.{task_on}
use Rattle.abrlab_top.specs.Regret.{near_regret}
use Rattle.abrlab_top.specs.Runs.{Ends}
use Rattle.abrlab_top.specs.Stages.{Writes, at_the_end}

-- ---- regrets

-- what `compare --regret --near` wrote by its inputs: it told of bounds of their networks
pub record WritesBounds (i : InputValues) (old : Seen) (e : Ending) (new : Seen) : Type 0 where
  pub bounds : List ℤ
  pub are : HasText e → AreBounds i i.networks bounds
  pub writes : Writes at_the_end (near_regret bounds i) old e new

-- how it ended over its files
pub record EndsWithBounds (c : CommandWords) (shelf : Shelved) (out : Seen) (e : Ending) (shelf2 : Shelved) (out2 : Seen) : Type 0 where
  pub bounds : List ℤ
  pub are : (files : Files) → Tells shelf files → HasText e → (i : InputValues) → inputs_of c files ≡ Ok i → AreBounds i i.networks bounds
  pub ends : Ends (film_files c) at_the_end (about (near_regret bounds) c) shelf out e shelf2 out2

-- ---- plans

-- the certificate is one of the network of these inputs
abbrev pub IsNearOn : InputValues → PriceParts → Type 0
IsNearOn i p = (network : Text × List Period) → slice_get i.networks 0 ≡ Some network → IsNearBest (task_on i network.1) p

-- what `plan --near` wrote by its inputs: it told of a certificate of their network
pub record WritesNear (as_certificate : Bool) (i : InputValues) (old : Seen) (e : Ending) (new : Seen) : Type 0 where
  pub certificate : PriceParts
  pub is : HasText e → IsNearOn i certificate
  pub writes : Writes at_the_end (near_plan as_certificate certificate i) old e new

-- how it ended over its files
pub record EndsNear (as_certificate : Bool) (c : CommandWords) (shelf : Shelved) (out : Seen) (e : Ending) (shelf2 : Shelved) (out2 : Seen) : Type 0 where
  pub certificate : PriceParts
  pub is : (files : Files) → Tells shelf files → HasText e → (i : InputValues) → inputs_of c files ≡ Ok i → IsNearOn i certificate
  pub ends : Ends (film_files c) at_the_end (about (near_plan as_certificate certificate) c) shelf out e shelf2 out2
