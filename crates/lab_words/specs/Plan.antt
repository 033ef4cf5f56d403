-- The command `plan`: its words and what they ask for.
use Rattle.std.specs.Prelude.{ℕ, Bool, ◌||◌, List, [], ◌∷◌, Option, Some, None, codes, is_some, nat_lt}
use Rattle.clap.specs.Simple.{App}
use Rattle.clap.specs.Walk.{Row}
use Rattle.lab_words.specs.Command.{CommandWords, blank}
use Rattle.lab_words.specs.Settings.{settings_in, settings_words, with_settings}
use Rattle.lab_words.specs.Spelling.{Text, grid_of}
use Rattle.lab_words.specs.Table.{table_app}
use Rattle.lab_model.specs.OptionSteps.{◌>>=◌}
use Rattle.lab_model.specs.Limits.{all_ahead, most_budget}
use Rattle.lab_words.specs.Values.{at_most_one, if_agreed, is_given, number_unless, optional, optional_number, required_text}
use Rattle.lab_words.specs.declared.Verb.TheVariants as verb
use Rattle.lab_words.specs.declared.table.Kind.{Kind}
use Rattle.lab_words.specs.declared.table.Kind.TheVariants as kind

-- its own words
abbrev pub plan_words : List (Text × Kind)
plan_words = (codes "manifest", kind.Required)
    ∷ (codes "trace", kind.Required)
    ∷ (codes "budget", kind.Optional)
    ∷ (codes "as-certificate", kind.Flag)
    ∷ (codes "live", kind.Optional)
    ∷ (codes "coarse", kind.Optional)
    ∷ (codes "near", kind.Flag)
    ∷ []

-- the command for `clap`
unfoldable pub plan_app : App
plan_app = table_app (codes "plan") plan_words settings_words

-- the grid of a text, or zeros where there is none
abbrev pub grid_if : Option Text → Option (ℕ × ℕ)
grid_if None = Some (0, 0)
grid_if (Some text) = grid_of text

-- the grid of a coarse plan, or zeros
unfoldable pub grid_words_in : List Row → Option (ℕ × ℕ)
grid_words_in rows = do
  given ← optional (codes "coarse") rows
  grid_if given

-- not both asked for: a coarse plan, and media ahead or a bound by prices
abbrev pub plan_agrees : CommandWords → Bool
plan_agrees c = at_most_one ((is_some c.live || c.near) ∷ nat_lt 0 c.coarse_time ∷ [])

-- what `plan` is asked for, by the values of its options
unfoldable pub plan_in : List Row → Option CommandWords
plan_in rows = do
  manifest ← required_text (codes "manifest") rows
  trace ← required_text (codes "trace") rows
  settings ← settings_in rows
  budget ← number_unless (is_given (codes "near") rows) 200000 1 most_budget (codes "budget") rows
  live ← optional_number 0 all_ahead (codes "live") rows
  grid ← grid_words_in rows
  if_agreed plan_agrees (record (with_settings settings (blank verb.Plan)) {
    manifest = manifest;
    traces = trace ∷ [];
    budget = budget;
    as_certificate = is_given (codes "as-certificate") rows;
    live = live;
    coarse_time = grid.0;
    coarse_value = grid.1;
    near = is_given (codes "near") rows;
  })
