-- How numbers, lists of numbers and grids are spelled on the command line.
use Rattle.std.specs.Prelude.{ℕ, ◌&&◌, ◌==◌, Bool, true, List, [], ◌∷◌, Option, Some, None, length, if◌then◌else◌, nat_le, nat_lt, option_map, option_and_then}
use Rattle.std.specs.List.{after_first, before_first, position_or_len, slice_split}
use Rattle.std.specs.Str.Parse.{digits_value}
use Rattle.lab_model.specs.OptionSteps.{◌>>=◌}
pub use Rattle.lab_io.specs.Number.{is_number}
pub use Rattle.lab_io.specs.Sink.{Text}

-- the texts, unless there are more of them
abbrev pub at_most : ℕ → List Text → Option (List Text)
at_most most texts = if nat_le (length texts) most then Some texts else None

-- n, where it is from `least` to `most`
abbrev pub in_range : ℕ → ℕ → ℕ → Option ℕ
in_range least most n = if nat_le least n && nat_le n most then Some n else None

-- the number from `least` to `most` that the text spells
unfoldable pub number_of : ℕ → ℕ → Text → Option ℕ
number_of least most text = if is_number text then in_range least most (digits_value 10 text) else None

-- the number of each text, where each spells one
abbrev pub all_numbers : ℕ → ℕ → List Text → Option (List ℕ)
all_numbers least most [] = Some []
all_numbers least most (text ∷ texts) = option_and_then (λ n. option_map (λ ns. n ∷ ns) (all_numbers least most texts)) (number_of least most text)

-- what stands between the commas of a text
abbrev pub pieces_of : Text → List Text
pieces_of text = slice_split (λ b. b == 44) text

-- one number and more, joined by `,`, at most `count` of them and each from `least` to `most`
unfoldable pub numbers_of : ℕ → ℕ → ℕ → Text → Option (List ℕ)
numbers_of count least most text = if nat_le (length (pieces_of text)) count then all_numbers least most (pieces_of text) else None

-- no number is below the one before it
abbrev pub never_falls : List ℕ → Bool
never_falls [] = true
never_falls (x ∷ []) = true
never_falls (x ∷ y ∷ ys) = nat_le x y && never_falls (y ∷ ys)

-- the numbers, unless one is below the one before it
abbrev pub unless_falling : List ℕ → Option (List ℕ)
unless_falling ns = if never_falls ns then Some ns else None

-- 1 to 16 utilities joined by `,`, non-decreasing, each from 0 to 1000000
unfoldable pub utilities_spelled : Text → Option (List ℕ)
utilities_spelled text = option_and_then unless_falling (numbers_of 16 0 1000000 text)

-- a text has a `,`
abbrev pub has_comma : Text → Bool
has_comma text = nat_lt (position_or_len (λ b. b == 44) text) (length text)

-- a grid of two texts: milliseconds from 1 to 10000, and thousandths of a point from 1 to 1000000
abbrev pub grid_by : Text → Text → Option (ℕ × ℕ)
grid_by time value = do
  ms ← number_of 1 10000 time
  thousandths ← number_of 1 1000000 value
  Some (ms, thousandths)

-- the grid that a text spells: its time, a `,` and its value
unfoldable pub grid_of : Text → Option (ℕ × ℕ)
grid_of text = if has_comma text then grid_by (before_first (λ b. b == 44) text) (after_first (λ b. b == 44) text) else None
