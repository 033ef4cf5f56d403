-- The command `demo`: its word and what it asks for.
use Rattle.std.specs.Prelude.{List, [], ◌∷◌, Option, Some, codes}
use Rattle.clap.specs.Simple.{App}
use Rattle.clap.specs.Walk.{Row}
use Rattle.lab_words.specs.Command.{CommandWords, blank}
use Rattle.lab_words.specs.Spelling.{Text, number_of}
use Rattle.lab_words.specs.Table.{table_app}
use Rattle.lab_model.specs.OptionSteps.{◌>>=◌}
use Rattle.lab_words.specs.Values.{required_text}
use Rattle.lab_words.specs.declared.Verb.TheVariants as verb
use Rattle.lab_words.specs.declared.table.Kind.{Kind}
use Rattle.lab_words.specs.declared.table.Kind.TheVariants as kind

-- its own words
abbrev pub demo_words : List (Text × Kind)
demo_words = (codes "number", kind.One) ∷ []

-- the command for `clap`
unfoldable pub demo_app : App
demo_app = table_app (codes "demo") demo_words []

-- what `demo` is asked for, by its word
unfoldable pub demo_in : List Row → Option CommandWords
demo_in rows = do
  text ← required_text (codes "number") rows
  number ← number_of 0 2147483647 text
  Some (record (blank verb.Demo) { number = number })
