-- The values of a command's options, by the rows of `clap`'s matches: optional or required_text, one of two, numbers and flags; and options that exclude each other.
use Rattle.std.specs.Prelude.{◌≡◌, ℕ, ◌==◌, Bool, true, List, [], ◌∷◌, Option, Some, None, Result, Ok, Err, codes, count_by, is_some, nat_le, option_and_then, option_map, unwrap_or, if◌then◌else◌}
use Rattle.std.specs.List.{list_any}
use Rattle.std.specs.Str.{bytes_eq}
use Rattle.clap.specs.Walk.{Row, all_of, first_of}
use Rattle.lab_model.specs.OptionSteps.{◌>>=◌}
use Rattle.lab_words.specs.Spelling.{Text, number_of}
use Rattle.lab_words.specs.declared.WordsErr.{WordsErr}
use Rattle.lab_words.specs.declared.WordsErr.TheVariants as errors
use Rattle.lab_words.specs.declared.values.OneOf.{OneOf}
use Rattle.lab_words.specs.declared.values.OneOf.TheVariants as one

-- a call gave the value, or refused, or was out of memory
abbrev pub Understands : {X Y : Type 0} → (X → Y) → Result X WordsErr → Option Y → Type 0
Understands view (Ok x) read = read ≡ Some (view x)
Understands view (Err errors.Usage) read = read ≡ None
Understands view (Err errors.Memory) read = Unit {0}

-- a value that is empty or begins with `-`
abbrev pub is_stray : Text → Bool
is_stray [] = true
is_stray (c ∷ cs) = c == 45

-- one value and more, of which none is stray
abbrev pub some_plain : List Text → Option (List Text)
some_plain [] = None
some_plain (text ∷ texts) = if list_any is_stray (text ∷ texts) then None else Some (text ∷ texts)

-- a value that is given, unless it is stray
abbrev pub not_stray : Text → Option (Option Text)
not_stray text = if is_stray text then None else Some (Some text)

-- none where nothing is given; a stray value is refused
abbrev pub checked : Option Text → Option (Option Text)
checked None = Some None
checked (Some text) = not_stray text

-- the value of an option, or that none is given; refused where it is stray
unfoldable pub optional : Text → List Row → Option (Option Text)
optional name rows = checked (first_of name rows)

-- the value of an option that has to be given
unfoldable pub required_text : Text → List Row → Option Text
required_text name rows = option_and_then (λ given. given) (optional name rows)

-- the value of one of two options
pub data Either : Type 0 where
  first : Text → Either
  second : Text → Either

-- the same, without where the text lies in memory
abbrev pub either_view : OneOf → Either
either_view (one.First text) = first text.now
either_view (one.Second text) = second text.now

-- the value of which there is one; refused where there are both or neither
abbrev pub the_one : Option Text → Option Text → Option Either
the_one (Some text) None = Some (first text)
the_one None (Some text) = Some (second text)
the_one (Some text) (Some other) = None
the_one None None = None

-- the value of two options of which exactly one is to be given
unfoldable pub one_of : Text → Text → List Row → Option Either
one_of name other rows = do
  here ← optional name rows
  there ← optional other rows
  the_one here there

-- the number that is given, if there is one
abbrev pub number_if : ℕ → ℕ → Option Text → Option (Option ℕ)
number_if least most None = Some None
number_if least most (Some text) = option_map (λ n. Some n) (number_of least most text)

-- the number of an option from `least` to `most`, or that none is given
unfoldable pub optional_number : ℕ → ℕ → Text → List Row → Option (Option ℕ)
optional_number least most name rows = option_and_then (number_if least most) (optional name rows)

-- the number of an option from `least` to `most`, or its default
unfoldable pub number_in : ℕ → ℕ → ℕ → Text → List Row → Option ℕ
number_in default least most name rows = option_map (λ given. unwrap_or given default) (optional_number least most name rows)

-- the values of a word that stands once or more; refused where one is stray
unfoldable pub several : Text → List Row → Option (List Text)
several name rows = option_and_then some_plain (all_of name rows)

-- whether a flag is given
abbrev pub is_given : Text → List Row → Bool
is_given name rows = bytes_eq (unwrap_or (first_of name rows) []) (codes "true")

-- at most one of the tests holds
abbrev pub at_most_one : List Bool → Bool
at_most_one tests = nat_le (count_by (λ test. test) tests) 1

-- the number that is given or its default; refused where one is given and barred
abbrev pub unless_barred : Bool → ℕ → Option ℕ → Option ℕ
unless_barred barred default given = if at_most_one (barred ∷ is_some given ∷ []) then Some (unwrap_or given default) else None

-- the number of an option from `least` to `most`, which must not be given where it is barred, or its default
unfoldable pub number_unless : Bool → ℕ → ℕ → ℕ → Text → List Row → Option ℕ
number_unless barred default least most name rows = option_and_then (unless_barred barred default) (optional_number least most name rows)

-- what was read, where no two options of it exclude each other
abbrev pub if_agreed : {X : Type 0} → (X → Bool) → X → Option X
if_agreed agrees x = if agrees x then Some x else None
