-- Whole numbers in their one spelling.
use Rattle.std.specs.Prelude.{ℕ, ◌&&◌, ◌==◌, Bool, false, not, [], ◌∷◌, Option, Some, None, length, if◌then◌else◌, nat_le}
use Rattle.std.specs.Str.{all_ascii_digits}
use Rattle.std.specs.Str.Parse.{digits_value}
use Rattle.lab_io.specs.Sink.{Text}

-- `0`, or digits of which the first isn't `0`
abbrev pub is_number : Text → Bool
is_number [] = false
is_number (c ∷ []) = all_ascii_digits (c ∷ [])
is_number (c ∷ d ∷ cs) = not (c == 48) && all_ascii_digits (c ∷ d ∷ cs)

-- the number that a text of at most so many digits spells
unfoldable pub numeral : ℕ → Text → Option ℕ
numeral digits text = if is_number text && nat_le (length text) digits then Some (digits_value 10 text) else None
