-- The settings that the commands on a manifest share: the buffer, the utilities or the name of their table, and the weights.
use Rattle.std.specs.Prelude.{ℕ, List, [], ◌∷◌, Option, Some, None, codes, option_map, string_bytes}
use Rattle.clap.specs.Walk.{Row}
use Rattle.lab_words.specs.Command.{CommandWords}
use Rattle.lab_words.specs.Spelling.{Text, utilities_spelled}
use Rattle.lab_model.specs.OptionSteps.{◌>>=◌}
use Rattle.lab_model.specs.Limits.{most_buffer}
use Rattle.lab_words.specs.Values.{Either, first, second, number_in, one_of}
use Rattle.lab_words.specs.declared.settings.Settings.{Settings}
use Rattle.lab_words.specs.declared.table.Kind.{Kind}
use Rattle.lab_words.specs.declared.table.Kind.TheVariants as kind

-- their words
abbrev pub settings_words : List (Text × Kind)
settings_words = (codes "buffer", kind.Optional)
    ∷ (codes "utilities", kind.Optional)
    ∷ (codes "utility-table", kind.Optional)
    ∷ (codes "switch", kind.Optional)
    ∷ (codes "stall", kind.Optional)
    ∷ (codes "startup", kind.Optional)
    ∷ []

-- utilities, or none and the file name of their table
abbrev pub UtilitiesWords : Type 0
UtilitiesWords = List ℕ × Option Text

-- the utilities that a text spells, or the table that it names
abbrev pub utilities_by : Either → Option UtilitiesWords
utilities_by (first text) = option_map (λ utilities. (utilities, None)) (utilities_spelled text)
utilities_by (second name) = Some ([], Some name)

-- the utilities or their table, of which exactly one has to be given
unfoldable pub utilities_in : List Row → Option UtilitiesWords
utilities_in rows = do
  given ← one_of (codes "utilities") (codes "utility-table") rows
  utilities_by given

-- what each command on a manifest has
pub record SettingsWords : Type 0 where
  pub buffer_ms : ℕ
  pub utilities : List ℕ
  pub table : Option Text
  pub switch : ℕ
  pub stall : ℕ
  pub startup : ℕ

-- what the options of a command on a manifest say
unfoldable pub settings_in : List Row → Option SettingsWords
settings_in rows = do
  buffer_ms ← number_in 25000 1 most_buffer (codes "buffer") rows
  utilities ← utilities_in rows
  switch ← number_in 0 0 1000000 (codes "switch") rows
  stall ← number_in 100 0 1000000 (codes "stall") rows
  startup ← number_in 1 0 1000000 (codes "startup") rows
  Some (record { buffer_ms = buffer_ms; utilities = utilities.0; table = utilities.1; switch = switch; stall = stall; startup = startup })

-- the settings, without where they lie in memory
abbrev pub settings_view : Settings → SettingsWords
settings_view s = record { buffer_ms = s.buffer_ms; utilities = s.utilities.items; table = option_map string_bytes s.table; switch = s.switch; stall = s.stall; startup = s.startup }

-- the command with these settings
abbrev pub with_settings : SettingsWords → CommandWords → CommandWords
with_settings s c = record c { buffer_ms = s.buffer_ms; utilities = s.utilities; table = s.table; switch = s.switch; stall = s.stall; startup = s.startup }
