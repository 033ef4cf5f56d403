-- The words that ask for a command.
use Rattle.std.proofs.Common.{◌≡◌, Bool, true, false, List, [], ◌∷◌, Option, Some, None, Result, Err, IsSome, option_and_then, is_some, refl, if◌then◌else◌}
use Rattle.lab_io.specs.Sink.{Text}
use Rattle.lab_words.specs.declared.Command.{Command}
use Rattle.lab_words.specs.declared.Verb.{Verb}
use Rattle.lab_words.specs.declared.WordsErr.{WordsErr}
use Rattle.lab_words.specs.declared.WordsErr.TheVariants as words_err
use Rattle.lab_words.specs.Command.{CommandWords}
use Rattle.lab_words.specs.Words.{asked_of, begins_with_verb, command_of, has_dashes, verb_of}

some_verb : (dashes : Bool) (v : Option Verb) (f : Verb → Option CommandWords) → IsSome (if dashes then None else option_and_then f v) → is_some v ≡ true
some_verb true v f e = cc
some_verb false None f e = cc
some_verb false (Some v) f e = refl

-- words that ask for a command begin with one
pub begins : (words : List Text) → IsSome (command_of words) → begins_with_verb words ≡ true
unfolding command_of
begins [] e = cc
begins (word ∷ words) e = some_verb (has_dashes words) (verb_of word) (λ verb. asked_of verb words) e

-- words whose reading wanted memory begin with a command
pub begins_wanting : (b : Bool) (r : Result Command WordsErr) → r ≡ Err words_err.Memory → (b ≡ false → r ≡ Err words_err.Usage) → b ≡ true
begins_wanting true r e h = refl
begins_wanting false r e h = let x = h refl in cc
