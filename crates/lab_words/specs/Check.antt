-- The command `check`: its words and what they ask for.
use Rattle.std.specs.Prelude.{Bool, ◌||◌, List, [], ◌∷◌, Option, Some, codes, is_some}
use Rattle.clap.specs.Simple.{App}
use Rattle.clap.specs.Walk.{Row}
use Rattle.lab_words.specs.Command.{CommandWords, blank}
use Rattle.lab_words.specs.Settings.{settings_in, settings_words, with_settings}
use Rattle.lab_words.specs.Spelling.{Text}
use Rattle.lab_words.specs.Table.{table_app}
use Rattle.lab_model.specs.OptionSteps.{◌>>=◌}
use Rattle.lab_model.specs.Limits.{all_ahead}
use Rattle.lab_words.specs.Values.{at_most_one, if_agreed, is_given, optional_number, required_text}
use Rattle.lab_words.specs.declared.Verb.TheVariants as verb
use Rattle.lab_words.specs.declared.table.Kind.{Kind}
use Rattle.lab_words.specs.declared.table.Kind.TheVariants as kind

-- its own words
abbrev pub check_words : List (Text × Kind)
check_words = (codes "manifest", kind.Required)
    ∷ (codes "trace", kind.Required)
    ∷ (codes "certificate", kind.Required)
    ∷ (codes "live", kind.Optional)
    ∷ (codes "gap", kind.Flag)
    ∷ (codes "near", kind.Flag)
    ∷ []

-- the command for `clap`
unfoldable pub check_app : App
check_app = table_app (codes "check") check_words settings_words

-- not both asked for: a gap certificate, and media ahead or a bound by prices
abbrev pub check_agrees : CommandWords → Bool
check_agrees c = at_most_one ((is_some c.live || c.near) ∷ c.gap ∷ [])

-- what `check` is asked for, by the values of its options
unfoldable pub check_in : List Row → Option CommandWords
check_in rows = do
  manifest ← required_text (codes "manifest") rows
  trace ← required_text (codes "trace") rows
  settings ← settings_in rows
  certificate ← required_text (codes "certificate") rows
  live ← optional_number 0 all_ahead (codes "live") rows
  if_agreed check_agrees (record (with_settings settings (blank verb.Check)) {
    manifest = manifest;
    traces = trace ∷ [];
    certificate = Some certificate;
    live = live;
    gap = is_given (codes "gap") rows;
    near = is_given (codes "near") rows;
  })
