-- A command as a table of its words, and what `clap` makes of it.
use Rattle.std.specs.Prelude.{true, false, Bool, List, [], ◌∷◌, Option, Some, None, if◌then◌else◌}
use Rattle.clap.specs.Faults.{fault_of}
use Rattle.clap.specs.Kinds.{Kinds}
use Rattle.clap.specs.Simple.{App, new_app, new_rule, with_rule, on_top, matches_of}
use Rattle.clap.specs.Walk.{Row, Rule}
use Rattle.clap.specs.declared.builder.action.ArgAction.TheVariants.{Set, Append, SetTrue}
use Rattle.lab_words.specs.Spelling.{Text}
use Rattle.lab_words.specs.declared.table.Kind.{Kind}
use Rattle.lab_words.specs.declared.table.Kind.TheVariants as kind
use Rattle.lab_words.specs.declared.table.Word.{Word}

-- what each kind of word is to `clap`
abbrev pub rule_of_word : Kind → Text → Rule
rule_of_word kind.Required name = record (new_rule name) { long = Some name; action = Some Set; required = true }
rule_of_word kind.Optional name = record (new_rule name) { long = Some name; action = Some Set }
rule_of_word kind.Flag name = record (new_rule name) { long = Some name; action = Some SetTrue }
rule_of_word kind.One name = record (new_rule name) { action = Some Set; required = true }
rule_of_word kind.Several name = record (new_rule name) { action = Some Append; required = true }

-- a word of a table, without where its name lies in memory
abbrev pub entry_of : Word → Text × Kind
entry_of w = (w.name.now, w.kind)

-- a command with no word of its own, no help and no version
abbrev pub plain_app : Text → App
plain_app name = on_top (λ s. record s { no_binary_name = true; disable_help_flag = true; disable_version_flag = true }) (new_app name)

-- the command with these words more
unfoldable pub with_words : App → List (Text × Kind) → App
with_words a [] = a
with_words a (w ∷ ws) = with_words (with_rule a (rule_of_word w.1 w.0)) ws

-- the command of this name with its own words, and those that it shares with others
unfoldable pub table_app : Text → List (Text × Kind) → List (Text × Kind) → App
table_app name own shared = with_words (with_words (plain_app name) own) shared

-- no fault was found
abbrev pub is_fault_free : Kinds → Bool
is_fault_free [] = true
is_fault_free (k ∷ ks) = false

-- the matches of `clap`'s own account of a command, where it finds no fault in the words
unfoldable pub accepted_words : App → List Text → Option (List Row)
accepted_words app words = if is_fault_free (fault_of app words) then Some (matches_of app words) else None
