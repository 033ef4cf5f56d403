-- The form of a line: its fields, one after the other. From the form follow the values of a line, their spelling, which of them a line can
-- hold, and how they are read.
use Rattle.std.specs.Prelude.{◌≡◌, ℕ, suc, List, [], ◌∷◌, length, map, Ok, ℤ}
use Rattle.std.specs.List.{All}
use Rattle.std.specs.Fmt.{decimal, signed_decimal}
use Rattle.lab_model.specs.Steps.{◌>>=◌}
use Rattle.lab_model.specs.Film.{IsWithin}
use Rattle.lab_io.specs.Sink.{Text}
use Rattle.certificate_text.specs.Fields.{Read, read_known, read_number, read_numbers, read_signed, read_within, read_word, stop_before}
use Rattle.labels.specs.Form.{HasDigits, HasSignedDigits, place_digits}

-- a form: no field more; so many numbers of at most so many digits, and no field more; or a field and then more of them, which is this word,
-- this number, a number of at most so many digits, a number from the first to the second, or a number of at most so many digits behind
-- which a `-` may stand
pub data Line : Type 0 where
  ends : Line
  numbers : ℕ → ℕ → Line
  word : Text → Line → Line
  known : ℕ → Line → Line
  number : ℕ → Line → Line
  within : ℕ → ℕ → Line → Line
  signed : ℕ → Line → Line

-- the values of a line
abbrev pub Values : Line → Type 0
Values ends = Unit {0}
Values (numbers count digits) = List ℕ
Values (word text more) = Values more
Values (known n more) = Values more
Values (number digits more) = ℕ × Values more
Values (within low high more) = ℕ × Values more
Values (signed digits more) = ℤ × Values more

-- its fields
abbrev pub fields_of : (line : Line) → Values line → List Text
fields_of ends values = []
fields_of (numbers count digits) ns = map decimal ns
fields_of (word text more) values = text ∷ fields_of more values
fields_of (known n more) values = decimal n ∷ fields_of more values
fields_of (number digits more) values = decimal values.0 ∷ fields_of more values.1
fields_of (within low high more) values = decimal values.0 ∷ fields_of more values.1
fields_of (signed digits more) values = signed_decimal values.0 ∷ fields_of more values.1

-- a line can hold these values
abbrev pub Holds : (line : Line) → Values line → Type 0
Holds ends values = Unit {0}
Holds (numbers count digits) ns = (length ns ≡ count) × All (HasDigits digits) ns
Holds (word text more) values = Holds more values
Holds (known n more) values = HasDigits place_digits n × Holds more values
Holds (number digits more) values = HasDigits digits values.0 × Holds more values.1
Holds (within low high more) values = IsWithin low high values.0 × Holds more values.1
Holds (signed digits more) values = HasSignedDigits digits values.0 × Holds more values.1

-- how many fields it has
abbrev pub field_count : Line → ℕ
field_count ends = 0
field_count (numbers count digits) = count
field_count (word text more) = suc (field_count more)
field_count (known n more) = suc (field_count more)
field_count (number digits more) = suc (field_count more)
field_count (within low high more) = suc (field_count more)
field_count (signed digits more) = suc (field_count more)

-- the byte that ends a field before so many more of its line
abbrev pub stop_of : Line → ℕ
stop_of more = stop_before (field_count more)

-- the values that the bytes spell, and what stands behind their line
unfoldable pub read_line : ℕ → (line : Line) → Text → Read (Values line)
read_line row ends bytes = Ok (tt, bytes)
read_line row (numbers count digits) bytes = read_numbers row digits count bytes
read_line row (word text more) bytes = do
  rest ← read_word row text (stop_of more) bytes
  read_line row more rest
read_line row (known n more) bytes = do
  rest ← read_known row n (stop_of more) bytes
  read_line row more rest
read_line row (number digits more) bytes = do
  n ← read_number row digits (stop_of more) bytes
  values ← read_line row more n.1
  Ok ((n.0, values.0), values.1)
read_line row (within low high more) bytes = do
  n ← read_within row low high (stop_of more) bytes
  values ← read_line row more n.1
  Ok ((n.0, values.0), values.1)
read_line row (signed digits more) bytes = do
  z ← read_signed row digits (stop_of more) bytes
  values ← read_line row more z.1
  Ok ((z.0, values.0), values.1)
