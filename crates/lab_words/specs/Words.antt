-- What a command line asks for, or that it is refused.
use Rattle.std.specs.Prelude.{Bool, false, List, [], ◌∷◌, Option, Some, None, codes, option_and_then, is_some, if◌then◌else◌}
use Rattle.std.specs.List.{list_any}
use Rattle.std.specs.Str.{bytes_eq}
use Rattle.lab_words.specs.Check.{check_app, check_in}
use Rattle.lab_words.specs.Compare.{compare_app, compare_in}
use Rattle.lab_words.specs.Demo.{demo_app, demo_in}
use Rattle.lab_words.specs.Plan.{plan_app, plan_in}
use Rattle.lab_words.specs.Simulate.{simulate_app, simulate_in}
use Rattle.lab_words.specs.Spelling.{Text}
use Rattle.lab_words.specs.Table.{accepted_words}
use Rattle.lab_words.specs.declared.Verb.{Verb}
use Rattle.lab_words.specs.declared.Verb.TheVariants as verb
pub use Rattle.lab_words.specs.Command.{CommandWords, named, view}
pub use Rattle.lab_words.specs.Values.{Understands}

-- the word `--` stands among the words
abbrev pub has_dashes : List Text → Bool
has_dashes words = list_any (λ w. bytes_eq w (codes "--")) words

-- the command that a word names
abbrev pub verb_of : Text → Option Verb
verb_of word =
    if bytes_eq word (codes "simulate") then Some verb.Simulate
    else if bytes_eq word (codes "compare") then Some verb.Compare
    else if bytes_eq word (codes "plan") then Some verb.Plan
    else if bytes_eq word (codes "check") then Some verb.Check
    else if bytes_eq word (codes "demo") then Some verb.Demo
    else None

-- what the words behind a command's name ask for
abbrev pub asked_of : Verb → List Text → Option CommandWords
asked_of verb.Simulate words = option_and_then simulate_in (accepted_words simulate_app words)
asked_of verb.Compare words = option_and_then compare_in (accepted_words compare_app words)
asked_of verb.Plan words = option_and_then plan_in (accepted_words plan_app words)
asked_of verb.Check words = option_and_then check_in (accepted_words check_app words)
asked_of verb.Demo words = option_and_then demo_in (accepted_words demo_app words)

-- the first word is a command
abbrev pub begins_with_verb : List Text → Bool
begins_with_verb [] = false
begins_with_verb (word ∷ words) = is_some (verb_of word)

-- what a command line asks for, without the program's name; none where it is refused
unfoldable pub command_of : List Text → Option CommandWords
command_of [] = None
command_of (word ∷ words) = if has_dashes words then None else option_and_then (λ verb. asked_of verb words) (verb_of word)
