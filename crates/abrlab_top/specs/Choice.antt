-- What a search chose, where a command has a choice: it answers with any rung list and windows, or with any bounds, whose claims hold.
use Rattle.std.specs.Prelude.{◌≡◌, ℕ, ◌^◌, ℤ, pos, ◌≤ℤ◌, true, List, [], ◌∷◌, Option, Some, None, Ok}
use Rattle.std.specs.List.{slice_get}
use Rattle.lab_io.specs.Shelf.{Shelved}
use Rattle.lab_io.specs.Sink.{Text}
use Rattle.lab_model.specs.Number.{IsNear}
use Rattle.lab_model.specs.declared.trace.Period.{Period}
use Rattle.lab_model.specs.Film.{segments_of}
use Rattle.lab_words.specs.declared.Verb.{Verb}
use Rattle.lab_words.specs.declared.Verb.TheVariants as verb
use Rattle.lab_words.specs.Command.{CommandWords}
use Rattle.lab_inputs.specs.Files.{Files}
use Rattle.lab_inputs.specs.Inputs.{InputValues, inputs_of}
use Rattle.lab_inputs.specs.Stages.{Tells}
use Rattle.player_core.specs.Scene.{Task}
use Rattle.labels.specs.Best.{task_value}
use Rattle.labels.specs.Labels.{AreRungs}
use Rattle.price_bounds.specs.Bound.{bound_of}
use Rattle.price_bounds.specs.Verdict.{IsValid, PriceParts}
use Rattle.price_text.specs.Form.{IsPrices}
use Rattle.abrlab_top.specs.declared.ending.Ending.{Ending}
use Rattle.abrlab_top.specs.declared.ending.Ending.TheVariants as ending
use Rattle.abrlab_top.specs.Plan.{task_on}

-- what was chosen: for `plan --near` a certificate by prices, for `compare --regret --near` a bound for each network, in order
pub record Choice : Type 0 where
  pub certificate : PriceParts
  pub bounds : List ℤ

-- the choice of a command that has none
abbrev pub no_choice : Choice
no_choice = record {
  certificate = record { segments = 0; rungs = 0; score = pos 0; bound = pos 0; plan = []; windows = [] };
  bounds = [];
}

-- the certificate is one of the task: its list has its score, its bound is that of its windows, and a text can hold it
pub record IsNearBest (g : Task) (p : PriceParts) : Type 0 where
  pub valid : IsValid g p
  pub exact : p.bound ≡ bound_of g p.windows
  pub form : IsPrices p

-- no rung list has a value above the bound, which can be summed
pub record IsBound (g : Task) (bound : ℤ) : Type 0 where
  pub bounds : (rungs : List ℕ) → AreRungs g (segments_of g.film) rungs → task_value g rungs ≤ℤ bound
  pub near : IsNear (10 ^ 24) bound

-- a bound for each of these networks, in order
abbrev pub AreBounds : InputValues → List (Text × List Period) → List ℤ → Type 0
AreBounds i [] [] = Unit {0}
AreBounds i [] (bound ∷ bounds) = ⊥
AreBounds i (network ∷ networks) [] = ⊥
AreBounds i (network ∷ networks) (bound ∷ bounds) = IsBound (task_on i network.1) bound × AreBounds i networks bounds

-- what a command of this verb chose by its inputs
abbrev pub ChosenBy : Verb → CommandWords → Choice → InputValues → Type 0
ChosenBy verb.Simulate c choice i = Unit {0}
ChosenBy verb.Compare c choice i = c.regret ≡ true → c.near ≡ true → AreBounds i i.networks choice.bounds
ChosenBy verb.Plan c choice i = c.near ≡ true → (network : Text × List Period) → slice_get i.networks 0 ≡ Some network → IsNearBest (task_on i network.1) choice.certificate
ChosenBy verb.Check c choice i = Unit {0}
ChosenBy verb.Demo c choice i = Unit {0}

-- what words chose by their files
abbrev pub ChosenOver : Option CommandWords → Choice → Files → Type 0
ChosenOver None choice files = Unit {0}
ChosenOver (Some c) choice files = (i : InputValues) → inputs_of c files ≡ Ok i → ChosenBy c.verb c choice i

-- the run came to its text, of which all or a part went out
abbrev pub HasText : Ending → Type 0
HasText ending.Done = Unit {0}
HasText ending.Invalid = Unit {0}
HasText ending.Usage = ⊥
HasText (ending.Stopped why) = ⊥
HasText (ending.Spent trace segment) = ⊥
HasText ending.OutputFailed = Unit {0}
HasText ending.NoMemory = ⊥

-- what a run chose that ended so, over told files
abbrev pub Chosen : Option CommandWords → Choice → Shelved → Ending → Type 0
Chosen o choice shelf e = (files : Files) → Tells shelf files → HasText e → ChosenOver o choice files
