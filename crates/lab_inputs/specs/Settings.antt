-- The first setting that does not fit the film.
use Rattle.std.specs.Prelude.{ℕ, ◌+◌, not, List, [], ◌∷◌, map, Option, Some, None, option_map, Result, Ok, Err, if◌then◌else◌}
use Rattle.std.specs.List.{All}
use Rattle.lab_io.specs.Sink.{Text}
use Rattle.lab_model.specs.declared.setup.Setup.{Setup}
use Rattle.lab_model.specs.Film.{Film}
use Rattle.lab_model.specs.Fit.{SetupFits, buffer_fits, utilities_fit}
use Rattle.lab_model.specs.Rules.{KindFits, RuleKind, kind_fits}
use Rattle.lab_model.specs.Steps.{◌>>=◌}
use Rattle.lab_words.specs.Command.{CommandWords}
use Rattle.lab_inputs.specs.declared.stop.Setting.{Setting}
use Rattle.lab_inputs.specs.declared.stop.Setting.TheVariants as setting
use Rattle.lab_inputs.specs.declared.stop.Stop.{Stop}
use Rattle.lab_inputs.specs.declared.stop.Stop.TheVariants as stop
use Rattle.lab_inputs.specs.Files.{Files}
use Rattle.lab_inputs.specs.Inputs.{InputValues, inputs_of}

-- the place of the first rule that cannot be asked about the film, the first rule being at this place
abbrev pub misfit_from : ℕ → List (Text × RuleKind) → Film → Option ℕ
misfit_from place [] f = None
misfit_from place (rule ∷ rules) f = if kind_fits rule.1 f then misfit_from (place + 1) rules f else Some place

-- the first setting that does not fit: the buffer, then the utilities, then the rules by their places from 1
unfoldable pub misfit : Setup → List (Text × RuleKind) → Film → Option Setting
misfit s rules f =
    if not (buffer_fits s f) then Some setting.Buffer
    else (if not (utilities_fit s f) then Some setting.Utilities
    else option_map setting.Rule (misfit_from 1 rules f))

-- a value, unless a setting does not fit
abbrev pub unless_misfit : {A : Type 0} → A → Option Setting → Result A Stop
unless_misfit x None = Ok x
unless_misfit x (Some setting) = Err (stop.Settings setting)

-- what a command is about, unless a setting does not fit its film
abbrev pub settled : InputValues → Result InputValues Stop
settled i = unless_misfit i (misfit i.setup i.rules i.film)

-- what a command is about, by its files, where the settings fit the film
unfoldable pub ready_of : CommandWords → Files → Result InputValues Stop
ready_of c files = do
  inputs ← inputs_of c files
  settled inputs

-- all fits: the setup and each rule
pub record Fits (i : InputValues) : Type 0 where
  pub setup : SetupFits i.setup i.film
  pub rules : All (λ r. KindFits r.1 i.film) i.rules
